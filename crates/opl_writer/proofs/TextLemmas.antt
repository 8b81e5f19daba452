-- The lines of a text of written lines.
use Rattle.std.proofs.Common.{◌≡◌, ◌∙◌, Bool, ℕ, List, [], ◌∷◌, ◌++◌, length, map, Option, Some, Result, Ok, refl, ap, append_assoc, arith, All}
use Rattle.std.specs.Prelude.{nat_lt}
use Rattle.std.specs.List.{slice_split, filter_map, cons_option}
use Rattle.std.proofs.lemmas.Bool.{ne_eqb}
use Rattle.std.proofs.lemmas.List.Elements.{All-head, All-tail}
use Rattle.std.proofs.lemmas.List.Splits.{slice_split_at, length-slice_split}
use Rattle.opl_reader.specs.declared.fault.LineFault.{LineFault}
use Rattle.osm_elements.specs.declared.object.Object.{Object}
use Rattle.opl_reader.specs.LineReading.{reading}
use Rattle.opl_reader.specs.Lines.{is_newline, with_last, lines_of}
use Rattle.opl_reader.specs.Parts.{Lacks}
use Rattle.opl_reader.specs.Told.{object_in, object_told}
use Rattle.opl_reader.proofs.ReaderKit.{with_last-cons}
use Rattle.opl_writer.specs.Written.{object_line, objects_text}
use Rattle.opl_writer.specs.Writable.{IsWritable}

-- a line that is ended, before other bytes
line-first : (line bytes : List ℕ) → Lacks 10 line → lines_of (line ++ 10 ∷ [] ++ bytes) ≡ line ∷ lines_of bytes
line-first line bytes lacks =
    let cut : slice_split is_newline (line ++ 10 ∷ [] ++ bytes) ≡ line ∷ slice_split is_newline bytes =
    ap (slice_split is_newline) (append_assoc line (10 ∷ []) bytes) ∙ slice_split_at is_newline line 10 bytes (λ k d lt. ne_eqb _ 10 (lacks k d lt)) refl in
    ap (with_last counts) cut ∙ with_last-cons counts line (slice_split is_newline bytes) (omega (arith, length-slice_split is_newline bytes))
  where
    counts : List ℕ → Bool
    counts l = nat_lt 0 (length l)

pub lines_are : ((o : Object) → IsWritable o → Lacks 10 (object_line o)) → (objects : List Object) → All IsWritable objects → lines_of (objects_text objects) ≡ map object_line objects
lines_are lacks [] h = refl
lines_are lacks (o ∷ objects) h =
    line-first (object_line o) (objects_text objects) (lacks o (All-head IsWritable o objects h))
    ∙ ap (λ (lines : List (List ℕ)). object_line o ∷ lines) (lines_are lacks objects (All-tail IsWritable o objects h))

pub objects_are : ((o : Object) → IsWritable o → reading (object_line o) ≡ Ok (Some o)) → (objects : List Object) → All IsWritable objects → filter_map object_told (map object_line objects) ≡ objects
objects_are read [] h = refl
objects_are read (o ∷ objects) h =
    ap (λ (r : Result (Option Object) LineFault). cons_option (object_in r) (filter_map object_told (map object_line objects))) (read o (All-head IsWritable o objects h))
    ∙ ap (λ (os : List Object). o ∷ os) (objects_are read objects (All-tail IsWritable o objects h))
