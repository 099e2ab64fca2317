-- Lines as they are put together, and written into a buffer.
use Rattle.std.specs.Prelude.{◌≡◌, ℕ, ◌+◌, ◌<◌, ◌≤◌, List, ◌++◌, length, take, drop, Ok, Err, Result}
use Rattle.bounds.specs.declared.refusal.Refusal.{Refusal}
use Rattle.bounds.specs.declared.refusal.Refusal.TheVariants as refused
use Rattle.byte_text.specs.declared.line.Line.{Line}

-- the bytes of the line so far
abbrev pub text : Line → List ℕ
text l = take l.used l.bytes

-- the bytes ds come after the bytes `before`, or all is as it was where a line has no room for them
abbrev pub AddSays : List ℕ → List ℕ → Result (Unit {0}) Refusal → List ℕ → Type 0
AddSays before ds (Ok u) after = (length before + length ds ≤ 1200) × (after ≡ before ++ ds)
AddSays before ds (Err e) after = (e ≡ refused.Buffer) × (1200 < length before + length ds) × (after ≡ before)

-- buf with ds written from `at` on, and all else as before
abbrev pub written : List ℕ → ℕ → List ℕ → List ℕ
written buf at ds = take at buf ++ (ds ++ drop (at + length ds) buf)

-- ds stand at the start of the buffer and their length is the answer, or all is as it was where the buffer is shorter
abbrev pub WriteSays : List ℕ → List ℕ → Result ℕ Refusal → List ℕ → Type 0
WriteSays ds buf (Ok n) buf' = (n ≡ length ds) × (n ≤ length buf) × (buf' ≡ written buf 0 ds)
WriteSays ds buf (Err e) buf' = (e ≡ refused.Buffer) × (length buf < length ds) × (buf' ≡ buf)
