-- What a run writes, in order: bytes, each with its destination.
use Rattle.std.specs.Prelude.{ℕ, List, [], ◌∷◌, Vec}
use Rattle.std.specs.List.{flat_map}
use Rattle.std.specs.declared.alloc.Global.{Global}

pub data Sent : Type 0 where
  to_output : ℕ → Sent
  to_report : ℕ → Sent

-- the bytes of it that go to the output
abbrev pub output_of : List Sent → List ℕ
output_of [] = []
output_of (to_output byte ∷ rest) = byte ∷ output_of rest
output_of (to_report byte ∷ rest) = output_of rest

-- the bytes of it that go to the report
abbrev pub report_of : List Sent → List ℕ
report_of [] = []
report_of (to_output byte ∷ rest) = report_of rest
report_of (to_report byte ∷ rest) = byte ∷ report_of rest

-- lines, one after the other
abbrev pub lines_text : List (Vec ℕ Global) → List ℕ
lines_text lines = flat_map (λ line. line.items) lines
