-- Entries are told apart by their lines
use Rattle.std.proofs.Common.{◌≡◌, ℕ, ◌+◌, ◌*◌, ◌/◌, ◌%◌, ◌<◌, ◌≤◌, true, List, [], ◌∷◌, ◌++◌, length, take, drop, sym, refl, ap, ◌∙◌, append_assoc, arith, length-append}
use Rattle.std.proofs.lemmas.List.{take_at, drop_at}
use Rattle.std.proofs.lemmas.Fmt.{decimal_injective}
use Rattle.zones.specs.Codes.{at, decode, code_of}
use Rattle.zones.proofs.Props.{sound}
use Rattle.zones.proofs.Givens.{same_code}
use Rattle.byte_text.specs.Parts.{Place, parted, up_to}
use Rattle.byte_text.proofs.Spelling.{lacks}
use Rattle.entries.specs.declared.entry.Entry.{Entry}
use Rattle.entries.specs.Entries.{IsEntry}
use Rattle.entries.specs.Lines.{seen, items, commas, body, line}
use Rattle.entries.specs.Lists.{lines, AllEntries}
use Rattle.entries.proofs.Items.{seen_shown, length_line}
use Rattle.entries.proofs.Asks.{asks_free}
use Rattle.entries.proofs.Same.{whole_by, same_codes, same_zone, same_entry}
use Rattle.entries.proofs.Drafts.{fields, all_back, body_lacks, up_to_mark}

places_same : (p0 p1 p2 p3 q0 q1 q2 q3 : Place) → ◌≡◌ {A = List Place} (p0 ∷ p1 ∷ p2 ∷ p3 ∷ []) (q0 ∷ q1 ∷ q2 ∷ q3 ∷ []) → (p1 ≡ q1) × (p2 ≡ q2) × (p3 ≡ q3)
places_same p0 p1 p2 p3 q0 q1 q2 q3 e = (cc, cc, cc)

module _ (n : ℕ) (e f : Entry) (ie : IsEntry n e) (jf : IsEntry n f) (same : body n e ≡ body n f) where
  parts : ((fields n e ie).p1 ≡ (fields n f jf).p1) × ((fields n e ie).p2 ≡ (fields n f jf).p2) × ((fields n e ie).p3 ≡ (fields n f jf).p3)
  parts =
      let a = fields n e ie in
      let b = fields n f jf in
      places_same a.p0 a.p1 a.p2 a.p3 b.p0 b.p1 b.p2 b.p3 (sym a.are ∙ ap (parted 9 0) same ∙ b.are)

  bytes : {p q : Place} → p ≡ q → p.bytes ≡ q.bytes
  bytes h = ap (λ (x : Place). x.bytes) h

  positions : e.position ≡ f.position
  positions = decimal_injective e.position f.position (omega (arith, ie.high)) (omega (arith, jf.high)) (sym (fields n e ie).position ∙ bytes parts.0 ∙ (fields n f jf).position)

  rounds : e.round ≡ f.round
  rounds = decimal_injective e.round f.round ie.fits jf.fits (sym (fields n e ie).round ∙ bytes parts.1 ∙ (fields n f jf).round)

  texts : commas (items n (at e.zone.codes) 81) ≡ commas (items n (at f.zone.codes) 81)
  texts = sym (fields n e ie).bounds ∙ bytes parts.2 ∙ (fields n f jf).bounds

  sights : (p : ℕ) → p < 81 → seen n (at e.zone.codes) p ≡ seen n (at f.zone.codes) p
  sights p h = sym (all_back n e ie 0 (commas (items n (at f.zone.codes) 81)) (sym texts) p h) ∙ all_back n f jf 0 (commas (items n (at f.zone.codes) 81)) refl p h

  shown_same : (i j : ℕ) → i < 9 → j < 9 → i ≤ n → j ≤ n → (i ≡ j → ⊥) → at e.zone.codes i j ≡ at f.zone.codes i j
  shown_same i j hi hj l k d =
      let r : (9 * i + j) / 9 ≡ i = omega arith in
      let c : (9 * i + j) % 9 ≡ j = omega arith in
      let one = seen_shown n (at e.zone.codes) (9 * i + j) (omega (arith, r)) (omega (arith, c)) (λ z. d (sym r ∙ z ∙ c)) in
      let two = seen_shown n (at f.zone.codes) (9 * i + j) (omega (arith, r)) (omega (arith, c)) (λ z. d (sym r ∙ z ∙ c)) in
      (λ t. at e.zone.codes (sym r t) (sym c t)) ∙ one ∙ sights (9 * i + j) (omega arith) ∙ sym two ∙ (λ t. at f.zone.codes (r t) (c t))

  codes : (p : ℕ) → p < 81 → code_of e.zone.codes p ≡ code_of f.zone.codes p
  codes p h =
      let xs = e.zone.codes in
      let ys = f.zone.codes in
      let sx = sound xs e.zone.ok in
      let sy = sound ys f.zone.ok in
      let hi : p / 9 < 9 = omega arith in
      let hj : p % 9 < 9 = omega arith in
      let k : 9 * (p / 9) + p % 9 ≡ p = omega arith in
      same_code _ _ (sx.near p h).1 (sy.near p h).1
      (ap (λ (q : ℕ). decode (code_of xs q)) (sym k)
      ∙ asks_free n xs sx ie.asks (p / 9) (p % 9) hi hj
      ∙ whole_by n (at ys) (at xs) shown_same (p / 9) (p % 9) hi hj
      ∙ sym (asks_free n ys sy jf.asks (p / 9) (p % 9) hi hj)
      ∙ ap (λ (q : ℕ). decode (code_of ys q)) k)

  pub body_same : e ≡ f
  body_same = same_entry e f positions rounds (same_zone e.zone f.zone (same_codes _ _ (ie.places ∙ sym jf.places) (λ p h. codes p (omega (arith, ie.places)))))

-- bytes up to the first mark, and those after it
pub cut_once : (b : ℕ) (xs ys s t : List ℕ) → lacks b xs ≡ true → lacks b ys ≡ true → xs ++ (b ∷ s) ≡ ys ++ (b ∷ t) → (xs ≡ ys) × (s ≡ t)
cut_once b xs ys s t hx hy e =
    let l : length xs ≡ length ys = sym (up_to_mark b xs s hx) ∙ ap (up_to b) e ∙ up_to_mark b ys t hy in
    let front = sym (take_at xs (b ∷ s) (length xs) refl) ∙ (λ i. take (l i) (e i)) ∙ take_at ys (b ∷ t) (length ys) refl in
    let back = sym (drop_at xs (b ∷ s) (length xs) refl) ∙ (λ i. drop (l i) (e i)) ∙ drop_at ys (b ∷ t) (length ys) refl in
    (front, ap (drop 1) back)

pub line_on : (n : ℕ) (e : Entry) (rest : List ℕ) → line n e ++ rest ≡ body n e ++ (10 ∷ rest)
unfolding line
line_on n e rest = append_assoc (body n e) (10 ∷ []) rest

pub lines_same : (n : ℕ) (es fs : List Entry) → AllEntries n es → AllEntries n fs → lines n es ≡ lines n fs → es ≡ fs
lines_same n [] [] a b e = refl
lines_same n [] (f ∷ fs) a b e = absurd (omega (arith, ap length e, length-append (line n f) (lines n fs), length_line n f))
lines_same n (e ∷ es) [] a b h = absurd (omega (arith, ap length h, length-append (line n e) (lines n es), length_line n e))
lines_same n (e ∷ es) (f ∷ fs) a b h =
    let c = cut_once 10 (body n e) (body n f) (lines n es) (lines n fs) (body_lacks n e a.0) (body_lacks n f b.0) (sym (line_on n e (lines n es)) ∙ h ∙ line_on n f (lines n fs)) in
    let one = body_same n e f a.0 b.0 c.0 in
    let more = lines_same n es fs a.1 b.1 c.1 in
    λ i. one i ∷ more i

pub lines_append : (n : ℕ) (es fs : List Entry) → lines n (es ++ fs) ≡ lines n es ++ lines n fs
lines_append n [] fs = refl
lines_append n (e ∷ es) fs = ap (λ l. line n e ++ l) (lines_append n es fs) ∙ sym (append_assoc (line n e) (lines n es) (lines n fs))

pub all_append : (n : ℕ) (es fs : List Entry) → AllEntries n es → AllEntries n fs → AllEntries n (es ++ fs)
all_append n [] fs a b = b
all_append n (e ∷ es) fs a b = (a.0, all_append n es fs a.1 b)

-- a line has a byte at least
pub lines_long : (n : ℕ) (es : List Entry) → length es ≤ length (lines n es)
lines_long n [] = omega arith
lines_long n (e ∷ es) = omega (arith, lines_long n es, length-append (line n e) (lines n es), length_line n e)
