use Rattle.std.proofs.Common.{◌≡◌, ◌∙◌}
use Rattle.distances.proofs.Asked.{named, named_then, named_else, shaped, shaped_then, shaped_else, misshaped, checked}
use Rattle.distances.proofs.finder.is_askable.Goals as goal
use Rattle.distances.proofs.finder.is_askable.Goals.{then-position-ge1, else-position-ge1, then-position-positions, else-position-positions}

pub returns-then-state-clocks : goal.returns-then-state-clocks
returns-then-state-clocks g c =
    let M = g.P.Plan.meaning c.args.plan.now in
    let s = c.args.state.now in
    let p = c.args.position in
    let rs = s.readings.now in
    let d = c.if-position-ge1.value in
    let b = c.if-position-positions.value in
    let first : d ≡ named M s.scale p rs = elim c.if-position-ge1.branch [
      | then-position-ge1 v ↦ named_then M s.scale p rs d _ v.if-position-ge1.true v.positions.ensures v.value-is
      | else-position-ge1 v ↦ named_else M s.scale p rs d v.if-position-ge1.false v.value-is
    ] in
    let both : b ≡ shaped M s.scale p rs = elim c.if-position-positions.branch [
      | then-position-positions w ↦ shaped_then M s.scale p rs b d _ first w.if-position-positions.true w.clocks.ensures w.value-is
      | else-position-positions w ↦ shaped_else M s.scale p rs b d first w.if-position-positions.false w.value-is
    ] in
    c.is_ok.ensures.value ∙ checked M s.scale p rs (g.P.Plan.sound c.args.plan.now) b both c.if-state-clocks.true _ c.time.ensures.allows c.check.result c.check.ensures

pub returns-else-state-clocks : goal.returns-else-state-clocks
returns-else-state-clocks g c =
    let M = g.P.Plan.meaning c.args.plan.now in
    let s = c.args.state.now in
    let p = c.args.position in
    let rs = s.readings.now in
    let d = c.if-position-ge1.value in
    let b = c.if-position-positions.value in
    let first : d ≡ named M s.scale p rs = elim c.if-position-ge1.branch [
      | then-position-ge1 v ↦ named_then M s.scale p rs d _ v.if-position-ge1.true v.positions.ensures v.value-is
      | else-position-ge1 v ↦ named_else M s.scale p rs d v.if-position-ge1.false v.value-is
    ] in
    let both : b ≡ shaped M s.scale p rs = elim c.if-position-positions.branch [
      | then-position-positions w ↦ shaped_then M s.scale p rs b d _ first w.if-position-positions.true w.clocks.ensures w.value-is
      | else-position-positions w ↦ shaped_else M s.scale p rs b d first w.if-position-positions.false w.value-is
    ] in
    misshaped M s.scale p rs b both c.if-state-clocks.false
