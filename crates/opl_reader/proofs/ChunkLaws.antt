-- What a reader hands out, by the bytes that were fed.
use Rattle.std.proofs.Common.{◌≡◌, ◌∙◌, refl, sym, ap, subst, ℕ, ◌+◌, ◌<◌, ◌≤◌, Bool, true, false, nat_lt, List, [], ◌∷◌, ◌++◌, length, take, append_assoc, append-nil, length-append, length-take, Option, None, Some, Ok, if◌then◌else◌, arith}
use Rattle.std.specs.List.{slice_split, filter_map, cons_option, before_first, position_or_len}
use Rattle.std.proofs.lemmas.Bool.{lt-ltb, le-ltb}
use Rattle.std.proofs.lemmas.List.{take_all}
use Rattle.std.proofs.lemmas.List.Elements.{filter_map-append}
use Rattle.osm_elements.specs.declared.object.Object.{Object}
use Rattle.opl_reader.specs.declared.feed.Fed.{Fed}
use Rattle.opl_reader.specs.LineReading.{reading}
use Rattle.opl_reader.specs.Lines.{is_newline, whole_lines, lines_of, unfinished_of}
use Rattle.opl_reader.specs.Told.{object_told}
use Rattle.opl_reader.specs.Reader.{Reader, new_reader}
use Rattle.opl_reader.specs.Feeding.{begun}
use Rattle.opl_reader.specs.Chunking.{IsReadable, AreReadable, HandsOut, HandsOutAll, with_told, Call, Calls, bytes_of, objects_of, NothingFed, OneMorePiece, AnyChunking, FinishGivesTheRest}
use Rattle.opl_reader.proofs.LineSplits.{IsOneLine, newline_ends, one_line, front_is_one, used_is, all_before, some_part, split_behind, lines_with_rest, ends_with, rest_is_one}
use Rattle.opl_reader.proofs.FeedSteps.{Step, step_of, kept, ended, Finished, finished_of, empty, one_more}

pub nothing_fed : NothingFed
nothing_fed longest = record {
  objects = refl;
  readable = tt;
  unfinished = refl;
  short = omega arith;
  line = refl;
  fed = refl;
  longest = refl;
  goes_on = refl;
}

-- ---- one more

told_added : (objects : List Object) (more : Option Object) → with_told objects more ≡ objects ++ cons_option more []
told_added objects None = sym (append-nil objects)
told_added objects (Some object) = refl

readable_added : (longest : ℕ) (lines : List (List ℕ)) (line : List ℕ) → AreReadable longest lines → IsReadable longest line → AreReadable longest (lines ++ line ∷ [])
readable_added longest [] line all is = (is, tt)
readable_added longest (l ∷ lines) line (first, all) is = (first, readable_added longest lines line all is)

-- the objects of lines with one line more
objects_added : (handed : List Object) (lines : List (List ℕ)) (line : List ℕ) (object : Option Object) → handed ≡ filter_map object_told lines → reading line ≡ Ok object →
    with_told handed object ≡ filter_map object_told (lines ++ line ∷ [])
objects_added handed lines line object told is =
    let one : object_told line ≡ object = rw is refl in
    told_added handed object ∙ sym (filter_map-append object_told lines (line ∷ []) ∙ rw one (ap (λ (zs : List Object). zs ++ cons_option object []) (sym told)))

-- the bytes without a newline are put behind the rest
pub kept_parts : (bytes piece : List ℕ) → position_or_len is_newline piece ≡ length piece → slice_split is_newline (bytes ++ piece) ≡ whole_lines bytes ++ (unfinished_of bytes ++ piece) ∷ []
kept_parts bytes piece none =
    let front : before_first is_newline piece ≡ piece = all_before piece none in
    let one : IsOneLine (unfinished_of bytes ++ piece) = subst (λ (zs : List ℕ). IsOneLine (unfinished_of bytes ++ zs)) front (front_is_one (unfinished_of bytes) piece (rest_is_one bytes)) in
    split_behind bytes piece ∙ ap (λ (zs : List (List ℕ)). whole_lines bytes ++ zs) (one_line (unfinished_of bytes ++ piece) one)

-- a newline ends the rest with what stands before it
pub ended_parts : (bytes piece : List ℕ) → slice_split is_newline (bytes ++ (before_first is_newline piece ++ 10 ∷ [])) ≡ (whole_lines bytes ++ (unfinished_of bytes ++ before_first is_newline piece) ∷ []) ++ [] ∷ []
ended_parts bytes piece =
    let front : List ℕ = before_first is_newline piece in
    let line : List ℕ = unfinished_of bytes ++ before_first is_newline piece in
    let one = front_is_one (unfinished_of bytes) piece (rest_is_one bytes) in
    let cut : unfinished_of bytes ++ (before_first is_newline piece ++ 10 ∷ []) ≡ (unfinished_of bytes ++ before_first is_newline piece) ++ 10 ∷ [] = sym (append_assoc (unfinished_of bytes) (before_first is_newline piece) (10 ∷ [])) in
    split_behind bytes (before_first is_newline piece ++ 10 ∷ [])
    ∙ ap (λ (zs : List (List ℕ)). whole_lines bytes ++ zs) (ap (slice_split is_newline) cut ∙ newline_ends (unfinished_of bytes ++ before_first is_newline piece) [] one)
    ∙ sym (append_assoc (whole_lines bytes) ((unfinished_of bytes ++ before_first is_newline piece) ∷ []) ([] ∷ []))

after_kept : (longest : ℕ) (bytes : List ℕ) (handed : List Object) (r : Reader) (piece : List ℕ) → HandsOut longest bytes handed r → position_or_len is_newline piece ≡ length piece →
    length (begun r piece) ≤ r.longest → HandsOut longest (bytes ++ take (length piece) piece) handed (record r { unfinished = begun r piece; fed = r.fed + length piece })
after_kept longest bytes handed r piece h none most =
    let all : take (length piece) piece ≡ piece = take_all (length piece) piece (omega arith) in
    let e = ends_with (bytes ++ piece) (whole_lines bytes) (unfinished_of bytes ++ piece) (kept_parts bytes piece none) in
    let fed = h.fed in
    let n = length-append bytes piece in
    let most_is = h.longest in
    rw all (record {
      objects = rw (e.0) h.objects;
      readable = rw (e.0) h.readable;
      unfinished = rw (e.1) (rw (all_before piece none) (ap (λ (zs : List ℕ). zs ++ piece) h.unfinished));
      short = omega arith;
      line = rw (e.0) h.line;
      fed = omega arith;
      longest = h.longest;
      goes_on = h.goes_on;
    })

after_ended : (longest : ℕ) (bytes : List ℕ) (handed : List Object) (r : Reader) (piece : List ℕ) (object : Option Object) → HandsOut longest bytes handed r →
    position_or_len is_newline piece < length piece → length (begun r piece) ≤ r.longest → reading (begun r piece) ≡ Ok object →
    HandsOut longest (bytes ++ take (position_or_len is_newline piece + 1) piece) (with_told handed object) (record r { unfinished = []; line = r.line + 1; fed = r.fed + (position_or_len is_newline piece + 1) })
after_ended longest bytes handed r piece object h lt most is =
    let e = ends_with (bytes ++ (before_first is_newline piece ++ 10 ∷ [])) (whole_lines bytes ++ (unfinished_of bytes ++ before_first is_newline piece) ∷ []) [] (ended_parts bytes piece) in
    let fed = h.fed in
    let n = length-append bytes (take (position_or_len is_newline piece + 1) piece) in
    let m = length-take (position_or_len is_newline piece + 1) piece in
    let count : r.fed + (position_or_len is_newline piece + 1) ≡ length (bytes ++ take (position_or_len is_newline piece + 1) piece) = omega arith in
    let most_is = h.longest in
    let line : begun r piece ≡ unfinished_of bytes ++ before_first is_newline piece = ap (λ (zs : List ℕ). zs ++ before_first is_newline piece) h.unfinished in
    let read : reading (unfinished_of bytes ++ before_first is_newline piece) ≡ Ok object = subst (λ (zs : List ℕ). reading zs ≡ Ok object) line is in
    let short : length (unfinished_of bytes ++ before_first is_newline piece) ≤ longest = subst (λ (zs : List ℕ). length zs ≤ longest) line (omega arith) in
    let lines = h.line in
    let l = length-append (whole_lines bytes) ((unfinished_of bytes ++ before_first is_newline piece) ∷ []) in
    let fed_is : r.fed + (position_or_len is_newline piece + 1) ≡ length (bytes ++ (before_first is_newline piece ++ 10 ∷ [])) = subst (λ (zs : List ℕ). r.fed + (position_or_len is_newline piece + 1) ≡ length (bytes ++ zs)) (used_is piece lt) count in
    rw (used_is piece lt) (record {
      objects = rw (e.0) (objects_added handed (whole_lines bytes) (unfinished_of bytes ++ before_first is_newline piece) object h.objects read);
      readable = rw (e.0) (readable_added longest (whole_lines bytes) (unfinished_of bytes ++ before_first is_newline piece) h.readable (record { short = short; object = object; read = read }));
      unfinished = sym e.1;
      short = omega arith;
      line = rw (e.0) (omega arith);
      fed = fed_is;
      longest = h.longest;
      goes_on = h.goes_on;
    })

by_step : (longest : ℕ) (bytes : List ℕ) (handed : List Object) (r : Reader) (piece : List ℕ) (fed : Fed) (next : Reader) → HandsOut longest bytes handed r → Step r piece fed next →
    HandsOut longest (bytes ++ take fed.used piece) (with_told handed fed.object) next
by_step longest bytes handed r piece fed next h (kept short none is n) =
    subst (λ (z : Fed). HandsOut longest (bytes ++ take z.used piece) (with_told handed z.object) next) (sym is)
    (subst (λ (z : Reader). HandsOut longest (bytes ++ take (length piece) piece) handed z) (sym n) (after_kept longest bytes handed r piece h none short))
by_step longest bytes handed r piece fed next h (ended short lt object read is n) =
    subst (λ (z : Fed). HandsOut longest (bytes ++ take z.used piece) (with_told handed z.object) next) (sym is)
    (subst (λ (z : Reader). HandsOut longest (bytes ++ take (position_or_len is_newline piece + 1) piece) (with_told handed object) z) (sym n) (after_ended longest bytes handed r piece object h lt short read))

pub one_more_piece : OneMorePiece
one_more_piece longest bytes handed r piece fed next h e = by_step longest bytes handed r piece fed next h (step_of r piece fed next h.goes_on e)

-- ---- any chunking

behind_calls : (longest : ℕ) (calls : List Call) (bytes : List ℕ) (handed : List Object) (first last : Reader) → HandsOut longest bytes handed first → Calls first calls last →
    HandsOut longest (bytes ++ bytes_of calls) (handed ++ objects_of calls) last
behind_calls longest [] bytes handed first last h e =
    rw (append-nil bytes, append-nil handed) (subst (λ (z : Reader). HandsOut longest bytes handed z) e h)
behind_calls longest (call ∷ calls) bytes handed first last h (next, e, more) =
    let step = one_more_piece longest bytes handed first call.piece call.fed next h e in
    let all = behind_calls longest calls (bytes ++ take call.fed.used call.piece) (with_told handed call.fed.object) next last step more in
    let b : (bytes ++ take call.fed.used call.piece) ++ bytes_of calls ≡ bytes ++ bytes_of (call ∷ calls) = append_assoc bytes (take call.fed.used call.piece) (bytes_of calls) in
    let o : with_told handed call.fed.object ++ objects_of calls ≡ handed ++ objects_of (call ∷ calls) = more_told handed call.fed.object (objects_of calls) in
    subst (λ (zs : List ℕ). HandsOut longest zs (handed ++ objects_of (call ∷ calls)) last) b
    (subst (λ (os : List Object). HandsOut longest ((bytes ++ take call.fed.used call.piece) ++ bytes_of calls) os last) o all)
  where
    more_told : (objects : List Object) (more : Option Object) (behind : List Object) → with_told objects more ++ behind ≡ objects ++ cons_option more behind
    more_told objects None behind = refl
    more_told objects (Some object) behind = append_assoc objects (object ∷ []) behind

pub any_chunking : AnyChunking
any_chunking longest calls last run = behind_calls longest calls [] [] (new_reader longest) last (nothing_fed longest) run

-- ---- the rest

-- all lines, by what stands behind the last newline
pub all_lines : (bytes : List ℕ) (b : Bool) → nat_lt 0 (length (unfinished_of bytes)) ≡ b → lines_of bytes ≡ whole_lines bytes ++ (if b then unfinished_of bytes ∷ [] else [])
all_lines bytes b e =
    subst (λ (z : Bool). lines_of bytes ≡ whole_lines bytes ++ (if z then unfinished_of bytes ∷ [] else [])) e
    (lines_with_rest (λ line. nat_lt 0 (length line)) (slice_split is_newline bytes) (some_part bytes))

finished : (longest : ℕ) (bytes : List ℕ) (handed : List Object) (last : Reader) (rest : Option Object) (r : Reader) → HandsOut longest bytes handed last → Finished last rest r →
    HandsOutAll longest bytes (with_told handed rest) r
finished longest bytes handed last rest r h (empty none is n) =
    let e : length (unfinished_of bytes) ≡ 0 = subst (λ (z : List ℕ). length z ≡ 0) h.unfinished none in
    let all : lines_of bytes ≡ whole_lines bytes = all_lines bytes false (le-ltb 0 (length (unfinished_of bytes)) (omega arith)) ∙ append-nil (whole_lines bytes) in
    record {
      objects = rw is (rw all h.objects);
      readable = rw all h.readable;
      line = rw all (n ∙ h.line);
    }
finished longest bytes handed last rest r h (one_more lt is n) =
    let some : 0 < length (unfinished_of bytes) = subst (λ (z : List ℕ). 0 < length z) h.unfinished lt in
    let short : length (unfinished_of bytes) ≤ longest = subst (λ (z : List ℕ). length z ≤ longest) h.unfinished h.short in
    let read : reading (unfinished_of bytes) ≡ Ok rest = subst (λ (z : List ℕ). reading z ≡ Ok rest) h.unfinished is in
    let all : lines_of bytes ≡ whole_lines bytes ++ unfinished_of bytes ∷ [] = all_lines bytes true (lt-ltb 0 (length (unfinished_of bytes)) some) in
    let line = h.line in
    let n2 = length-append (whole_lines bytes) (unfinished_of bytes ∷ []) in
    record {
      objects = rw all (objects_added handed (whole_lines bytes) (unfinished_of bytes) rest h.objects read);
      readable = rw all (readable_added longest (whole_lines bytes) (unfinished_of bytes) h.readable (record { short = short; object = rest; read = read }));
      line = rw all (omega arith);
    }

pub finish_gives_the_rest : FinishGivesTheRest
finish_gives_the_rest longest bytes handed last rest r h e = finished longest bytes handed last rest r h (finished_of last rest r e)
