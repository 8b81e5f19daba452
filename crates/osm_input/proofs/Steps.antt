-- One call on a reader of lines, and the store that it fills.
use Rattle.std.proofs.Common.{◌≡◌, ◌∙◌, refl, sym, ap, subst, ℕ, ◌+◌, ◌-◌, ◌<◌, ◌≤◌, Bool, true, false, nat_lt, ◌==◌, List, [], ◌∷◌, ◌++◌, length, take, drop, length-append, length-take, length-drop, append_assoc, append-nil, ◌⊎◌, inl, inr, Option, None, Some, Result, Ok, Err, if◌then◌else◌, arith}
use Rattle.std.specs.List.{filter_map, before_first, position_or_len}
use Rattle.std.proofs.lemmas.Bool.{lt-ltb, le-ltb}
use Rattle.std.proofs.lemmas.List.{take_all, take-append-drop}
use Rattle.osm_elements.specs.declared.object.Object.{Object}
use Rattle.opl_reader.specs.declared.fault.LineFault.{LineFault}
use Rattle.opl_reader.specs.declared.feed.Fed.{Fed}
use Rattle.opl_reader.specs.declared.feed.FeedError.{FeedError}
use Rattle.opl_reader.specs.declared.feed.FeedError.TheVariants as feed
use Rattle.opl_reader.specs.LineReading.{reading}
use Rattle.opl_reader.specs.Lines.{is_newline, whole_lines, lines_of, unfinished_of}
use Rattle.opl_reader.specs.Told.{object_told}
use Rattle.opl_reader.specs.Reader.{Reader, new_reader}
use Rattle.opl_reader.specs.Feeding.{feeding, finishing, begun, has_newline, fed, with_line, with_last_line, Answers}
use Rattle.opl_reader.specs.Chunking.{HandsOut}
use Rattle.opl_reader.proofs.ReaderKit.{used_is, ends_with, Step, kept, ended, step_of, refused_of, too_long_of, Finished, empty, one_more, finished_of, last_refused_of, nothing_fed, one_more_piece, kept_parts, ended_parts, all_lines}
use Rattle.osm_input.specs.declared.fault.InputFault.{InputFault}
use Rattle.osm_input.specs.declared.fault.InputFault.TheVariants as fault
use Rattle.osm_input.specs.declared.reading.ReadError.{ReadError}
use Rattle.osm_input.specs.declared.reading.ReadError.TheVariants.{BadInput, TooMuchInput, ReadFault, OutOfMemory}
use Rattle.osm_input.specs.Input.{objects_told, fault_in, line_fault, AreGood, IsBadPlace}
use Rattle.osm_input.specs.Lines.{lines_begun}
use Rattle.osm_input.specs.LineSteps.{IsLineError, IsErrorOfRefusal, with_live, HasReadLines, IsBadBehind, IsRefusedBy, ReadsAll}
use Rattle.osm_input.proofs.Begun.{begun_stands, begun_whole, fewer_before}
use Rattle.osm_input.proofs.Lines.{none_are_good, one_more_good, fault_of_short, told_more}

pub nothing_read : (longest : ℕ) → HasReadLines longest [] (new_reader longest) []
nothing_read longest = record { fed = nothing_fed longest; good = none_are_good longest; told = refl }

-- ---- a reader that goes on

not_ended_by : (r : Reader) (piece : List ℕ) (b c : Bool) (x : Result (Option Object) LineFault) →
    (if b then Err (feed.TooLong (r.line + 1)) else (if c then with_line r (position_or_len is_newline piece + 1) x else Ok (fed (length piece) None, record r { unfinished = begun r piece; fed = r.fed + length piece }))) ≡ Err feed.Ended → ⊥
not_ended_by r piece true c x e = absurd (cc)
not_ended_by r piece false true (Ok object) e = absurd (cc)
not_ended_by r piece false true (Err found) e = absurd (cc)
not_ended_by r piece false false x e = absurd (cc)

pub feeds_on : (r : Reader) (piece : List ℕ) → r.has_ended ≡ false → feeding r piece ≡ Err feed.Ended → ⊥
unfolding feeding
feeds_on r piece going e =
    not_ended_by r piece (nat_lt r.longest (length (begun r piece))) (has_newline piece) (reading (begun r piece))
    (sym (rw going refl) ∙ e)

pub may_refuse : (r now : Reader) (piece : List ℕ) (error : FeedError) → r.has_ended ≡ false → Answers {A = Fed} (Err error) now (feeding r piece) → error ≡ feed.Ended → ⊥
may_refuse r now piece (feed.Line number found) going answer e = absurd (cc)
may_refuse r now piece (feed.TooLong number) going answer e = absurd (cc)
may_refuse r now piece feed.Ended going answer e = feeds_on r piece going answer.0
may_refuse r now piece feed.OutOfMemory going answer e = absurd (cc)

last_not_ended_by : (r : Reader) (b : Bool) (x : Result (Option Object) LineFault) →
    (if b then Ok (None, record r { has_ended = true }) else with_last_line r x) ≡ Err feed.Ended → ⊥
last_not_ended_by r true x e = absurd (cc)
last_not_ended_by r false (Ok object) e = absurd (cc)
last_not_ended_by r false (Err found) e = absurd (cc)

pub finishes : (r : Reader) → r.has_ended ≡ false → finishing r ≡ Err feed.Ended → ⊥
unfolding finishing
finishes r going e = last_not_ended_by r (length r.unfinished == 0) (reading r.unfinished) (sym (rw going refl) ∙ e)

pub may_refuse_last : (r now : Reader) (error : FeedError) → r.has_ended ≡ false → Answers {A = Option Object} (Err error) now (finishing r) → error ≡ feed.Ended → ⊥
may_refuse_last r now (feed.Line number found) going answer e = absurd (cc)
may_refuse_last r now (feed.TooLong number) going answer e = absurd (cc)
may_refuse_last r now feed.Ended going answer e = finishes r going answer.0
may_refuse_last r now feed.OutOfMemory going answer e = absurd (cc)

-- ---- some bytes of a piece were read

record IsTold (longest : ℕ) (lines : List (List ℕ)) (objects : List Object) : Type 0 where
  good : AreGood longest lines
  told : objects ≡ objects_told lines

-- one line more that is good
told_with : (longest : ℕ) (lines : List (List ℕ)) (line : List ℕ) (object : Option Object) (objects more : List Object) → AreGood longest lines → objects ≡ objects_told lines →
    length line ≤ longest → reading line ≡ Ok object → fault_in objects (Ok object) ≡ None → more ≡ with_live objects object → IsTold longest (lines ++ line ∷ []) more
told_with longest lines line object objects more good told short is none same =
    let right : fault_in (objects_told lines) (reading line) ≡ None = rw is (subst (λ (os : List Object). fault_in os (Ok object) ≡ None) told none) in
    record {
      good = one_more_good longest lines line good (fault_of_short longest (objects_told lines) line short ∙ right);
      told = same ∙ (ap (λ (os : List Object). with_live os object) told ∙ told_more lines line object is);
    }

module _ (longest : ℕ) (bytes : List ℕ) (r : Reader) (objects : List Object) (h : HasReadLines longest bytes r objects) (piece : List ℕ) where
  line_here : begun r piece ≡ unfinished_of bytes ++ before_first is_newline piece
  line_here = ap (λ (zs : List ℕ). zs ++ before_first is_newline piece) h.fed.unfinished

  told_by : (f : Fed) (next : Reader) (more : List Object) → more ≡ with_live objects f.object → fault_in objects (Ok f.object) ≡ None → Step r piece f next →
      IsTold longest (whole_lines (bytes ++ take f.used piece)) more
  told_by f next more same none (kept short at is n) =
      let all : take f.used piece ≡ piece = ap (λ (z : Fed). take z.used piece) is ∙ take_all (length piece) piece (omega arith) in
      let lines : whole_lines (bytes ++ take f.used piece) ≡ whole_lines bytes =
      ap (λ (zs : List ℕ). whole_lines (bytes ++ zs)) all ∙ (ends_with (bytes ++ piece) (whole_lines bytes) (unfinished_of bytes ++ piece) (kept_parts bytes piece at)).0 in
      subst (λ (ls : List (List ℕ)). IsTold longest ls more) (sym lines) (record {
        good = h.good;
        told = same ∙ (ap (λ (z : Fed). with_live objects z.object) is ∙ h.told);
      })
  told_by f next more same none (ended short lt object read is n) =
      let used : take f.used piece ≡ before_first is_newline piece ++ 10 ∷ [] = ap (λ (z : Fed). take z.used piece) is ∙ used_is piece lt in
      let lines : whole_lines (bytes ++ take f.used piece) ≡ whole_lines bytes ++ begun r piece ∷ [] =
      ap (λ (zs : List ℕ). whole_lines (bytes ++ zs)) used
      ∙ ((ends_with (bytes ++ (before_first is_newline piece ++ 10 ∷ [])) (whole_lines bytes ++ (unfinished_of bytes ++ before_first is_newline piece) ∷ []) [] (ended_parts bytes piece)).0
      ∙ ap (λ (z : List ℕ). whole_lines bytes ++ z ∷ []) (sym line_here)) in
      let most : length (begun r piece) ≤ longest = subst (λ (n : ℕ). length (begun r piece) ≤ n) h.fed.longest short in
      subst (λ (ls : List (List ℕ)). IsTold longest ls more) (sym lines)
      (told_with longest (whole_lines bytes) (begun r piece) object objects more h.good h.told most read
      (subst (λ (z : Fed). fault_in objects (Ok z.object) ≡ None) is none) (same ∙ ap (λ (z : Fed). with_live objects z.object) is))

  pub holds_more : (f : Fed) (next : Reader) (more : List Object) → feeding r piece ≡ Ok (f, next) → more ≡ with_live objects f.object → fault_in objects (Ok f.object) ≡ None →
      HasReadLines longest (bytes ++ take f.used piece) next more
  holds_more f next more e same none =
      let told = told_by f next more same none (step_of r piece f next h.fed.goes_on e) in
      let hands = one_more_piece longest bytes (filter_map object_told (whole_lines bytes)) r piece f next h.fed e in
      record {
        fed = subst (λ (os : List Object). HandsOut longest (bytes ++ take f.used piece) os next) hands.objects hands;
        good = told.good;
        told = told.told;
      }

  -- ---- it is refused

  counts_too : ((position_or_len is_newline piece < length piece) ⊎ (longest < length (begun r piece))) →
      (position_or_len is_newline piece < length piece) ⊎ (nat_lt longest (length (unfinished_of bytes ++ before_first is_newline piece)) ≡ true)
  counts_too (inl lt) = inl lt
  counts_too (inr long) = inr (subst (λ (zs : List ℕ). nat_lt longest (length zs) ≡ true) line_here (lt-ltb longest (length (begun r piece)) long))

  bad_behind : (number : ℕ) (found : InputFault) → number ≡ r.line + 1 → ((position_or_len is_newline piece < length piece) ⊎ (longest < length (begun r piece))) →
      line_fault longest (objects_told (whole_lines bytes)) (begun r piece) ≡ Some found → IsBadBehind longest bytes piece number found
  bad_behind number found counted shown bad =
      let there = begun_stands (λ line. nat_lt longest (length line)) bytes piece (counts_too shown) in
      let line = h.fed.line in
      let short : length (unfinished_of bytes) ≤ longest = subst (λ (zs : List ℕ). length zs ≤ longest) h.fed.unfinished h.fed.short in
      let few : length (lines_begun longest bytes) ≡ length (whole_lines bytes) = ap length (begun_whole longest bytes short) in
      record {
        bad = record {
          before = whole_lines bytes;
          line = begun r piece;
          after = there.0;
          parted = there.1 ∙ ap (λ (z : List ℕ). whole_lines bytes ++ z ∷ there.0) (sym line_here);
          counted = omega arith;
          good_before = h.good;
          bad = bad;
        };
        behind = omega arith;
      }

  -- a line without a reading, or one that is too long
  pub line_refused : (error : FeedError) (now : Reader) (e : ReadError) → Answers {A = Fed} (Err error) now (feeding r piece) → IsErrorOfRefusal error e → IsRefusedBy longest bytes piece e
  line_refused (feed.Line number found) now e answer is =
      let f = refused_of r piece number found answer.0 in
      let most : length (begun r piece) ≤ longest = subst (λ (n : ℕ). length (begun r piece) ≤ n) h.fed.longest f.short in
      subst (λ (z : ReadError). IsRefusedBy longest bytes piece z) (sym is)
      (bad_behind number (fault.Line found) f.counted (inl f.newline) (fault_of_short longest (objects_told (whole_lines bytes)) (begun r piece) most ∙ rw (f.bad) refl))
  line_refused (feed.TooLong number) now e answer is =
      let f = too_long_of r piece number answer.0 in
      let long : longest < length (begun r piece) = subst (λ (n : ℕ). n < length (begun r piece)) h.fed.longest f.0 in
      subst (λ (z : ReadError). IsRefusedBy longest bytes piece z) (sym is)
      (bad_behind number fault.TooLong f.1 (inr long) (rw (lt-ltb longest (length (begun r piece)) long) refl))
  line_refused feed.Ended now e answer is = absurd is
  line_refused feed.OutOfMemory now e answer is = subst (λ (z : ReadError). IsRefusedBy longest bytes piece z) (sym is) tt

  again_by : (f : Fed) (next : Reader) (number : ℕ) (found : InputFault) → number ≡ next.line → fault_in objects (Ok f.object) ≡ Some found → Step r piece f next →
      IsBadBehind longest bytes piece number found
  again_by f next number found counted bad (kept short at is n) =
      let none : fault_in objects (Ok None) ≡ Some found = subst (λ (z : Fed). fault_in objects (Ok z.object) ≡ Some found) is bad in absurd (cc)
  again_by f next number found counted bad (ended short lt object read is n) =
      let most : length (begun r piece) ≤ longest = subst (λ (n : ℕ). length (begun r piece) ≤ n) h.fed.longest short in
      let told : fault_in (objects_told (whole_lines bytes)) (Ok object) ≡ Some found =
      subst (λ (os : List Object). fault_in os (Ok object) ≡ Some found) h.told (subst (λ (z : Fed). fault_in objects (Ok z.object) ≡ Some found) is bad) in
      bad_behind number found (counted ∙ ap (λ (z : Reader). z.line) n) (inl lt) (fault_of_short longest (objects_told (whole_lines bytes)) (begun r piece) most ∙ rw read told)

  -- an object that is there already
  pub object_refused : (f : Fed) (next : Reader) (number : ℕ) (e : ReadError) → feeding r piece ≡ Ok (f, next) → number ≡ next.line →
      IsLineError number (fault_in objects (Ok f.object)) e → IsRefusedBy longest bytes piece e
  object_refused f next number (BadInput line found) answer counted error = again_by f next line found (error.0 ∙ counted) error.1 (step_of r piece f next h.fed.goes_on answer)
  object_refused f next number (TooMuchInput limit) answer counted error = error
  object_refused f next number ReadFault answer counted error = error
  object_refused f next number OutOfMemory answer counted error = tt

-- ---- the end

module _ (longest : ℕ) (bytes : List ℕ) (r : Reader) (objects : List Object) (h : HasReadLines longest bytes r objects) where
  last_short : length (unfinished_of bytes) ≤ longest
  last_short = subst (λ (zs : List ℕ). length zs ≤ longest) h.fed.unfinished h.fed.short

  -- what is left is the last line
  with_the_last : 0 < length r.unfinished → lines_of bytes ≡ whole_lines bytes ++ unfinished_of bytes ∷ []
  with_the_last some = all_lines bytes true (lt-ltb 0 (length (unfinished_of bytes)) (subst (λ (zs : List ℕ). 0 < length zs) h.fed.unfinished some))

  finished_by : (rest : Option Object) (next : Reader) (more : List Object) → more ≡ with_live objects rest → fault_in objects (Ok rest) ≡ None → Finished r rest next → IsTold longest (lines_of bytes) more
  finished_by rest next more same none (empty nothing is n) =
      let few : length (unfinished_of bytes) ≡ 0 = subst (λ (zs : List ℕ). length zs ≡ 0) h.fed.unfinished nothing in
      let lines : lines_of bytes ≡ whole_lines bytes = all_lines bytes false (le-ltb 0 (length (unfinished_of bytes)) (omega arith)) ∙ append-nil (whole_lines bytes) in
      subst (λ (ls : List (List ℕ)). IsTold longest ls more) (sym lines) (record {
        good = h.good;
        told = same ∙ (ap (λ (o : Option Object). with_live objects o) is ∙ h.told);
      })
  finished_by rest next more same none (one_more some read n) =
      subst (λ (ls : List (List ℕ)). IsTold longest ls more) (sym (with_the_last some))
      (told_with longest (whole_lines bytes) (unfinished_of bytes) rest objects more h.good h.told last_short
      (subst (λ (zs : List ℕ). reading zs ≡ Ok rest) h.fed.unfinished read) none same)

  pub all_read : (rest : Option Object) (next : Reader) (more : List Object) → finishing r ≡ Ok (rest, next) → more ≡ with_live objects rest → fault_in objects (Ok rest) ≡ None →
      ReadsAll longest bytes (Ok more)
  all_read rest next more e same none = let told = finished_by rest next more same none (finished_of r rest next e) in (told.good, told.told)

  bad_last : (number : ℕ) (found : InputFault) → number ≡ r.line + 1 → 0 < length r.unfinished → line_fault longest (objects_told (whole_lines bytes)) (unfinished_of bytes) ≡ Some found →
      ReadsAll longest bytes (Err (BadInput number found))
  bad_last number found counted some bad =
      let line = h.fed.line in
      let few : length (lines_begun longest bytes) ≡ length (whole_lines bytes) = ap length (begun_whole longest bytes last_short) in (
        record {
          before = whole_lines bytes;
          line = unfinished_of bytes;
          after = [];
          parted = with_the_last some;
          counted = omega arith;
          good_before = h.good;
          bad = bad;
        },
        omega arith,
      )

  not_long_by : (number : ℕ) (b c : Bool) (x : Result (Option Object) LineFault) →
      (if b then Err feed.Ended else (if c then Ok (None, record r { has_ended = true }) else with_last_line r x)) ≡ Err (feed.TooLong number) → ⊥
  not_long_by number true c x e = absurd (cc)
  not_long_by number false true x e = absurd (cc)
  not_long_by number false false (Ok object) e = absurd (cc)
  not_long_by number false false (Err found) e = absurd (cc)

  not_long : (number : ℕ) → finishing r ≡ Err (feed.TooLong number) → ⊥
  unfolding finishing
  not_long number e = not_long_by number r.has_ended (length r.unfinished == 0) (reading r.unfinished) e

  -- the last line has no reading
  pub last_refused : (error : FeedError) (now : Reader) (e : ReadError) → Answers {A = Option Object} (Err error) now (finishing r) → IsErrorOfRefusal error e → ReadsAll longest bytes (Err e)
  last_refused (feed.Line number found) now e answer is =
      let f = last_refused_of r number found answer.0 in
      let bad : reading (unfinished_of bytes) ≡ Err found = subst (λ (zs : List ℕ). reading zs ≡ Err found) h.fed.unfinished f.bad in
      subst (λ (z : ReadError). ReadsAll longest bytes (Err z)) (sym is)
      (bad_last number (fault.Line found) f.counted f.some (fault_of_short longest (objects_told (whole_lines bytes)) (unfinished_of bytes) last_short ∙ rw bad refl))
  last_refused (feed.TooLong number) now e answer is = absurd (not_long number answer.0)
  last_refused feed.Ended now e answer is = absurd is
  last_refused feed.OutOfMemory now e answer is = subst (λ (z : ReadError). ReadsAll longest bytes (Err z)) (sym is) tt

  last_again_by : (rest : Option Object) (next : Reader) (number : ℕ) (found : InputFault) → number ≡ next.line → fault_in objects (Ok rest) ≡ Some found → Finished r rest next →
      ReadsAll longest bytes (Err (BadInput number found))
  last_again_by rest next number found counted bad (empty nothing is n) =
      let none : fault_in objects (Ok None) ≡ Some found = subst (λ (o : Option Object). fault_in objects (Ok o) ≡ Some found) is bad in absurd (cc)
  last_again_by rest next number found counted bad (one_more some read n) =
      let told : fault_in (objects_told (whole_lines bytes)) (Ok rest) ≡ Some found = subst (λ (os : List Object). fault_in os (Ok rest) ≡ Some found) h.told bad in
      let here : reading (unfinished_of bytes) ≡ Ok rest = subst (λ (zs : List ℕ). reading zs ≡ Ok rest) h.fed.unfinished read in
      bad_last number found (counted ∙ n) some (fault_of_short longest (objects_told (whole_lines bytes)) (unfinished_of bytes) last_short ∙ rw here told)

  -- it tells an object that is there already
  pub last_again : (rest : Option Object) (next : Reader) (number : ℕ) (e : ReadError) → finishing r ≡ Ok (rest, next) → number ≡ next.line →
      IsLineError number (fault_in objects (Ok rest)) e → ReadsAll longest bytes (Err e)
  last_again rest next number (BadInput line found) answer counted error = last_again_by rest next line found (error.0 ∙ counted) error.1 (finished_of r rest next answer)
  last_again rest next number (TooMuchInput limit) answer counted error = error
  last_again rest next number ReadFault answer counted error = error
  last_again rest next number OutOfMemory answer counted error = tt

-- ---- a piece, read bit by bit

-- a bad place in what is left of a piece is one of the piece
pub refused_in_rest : (longest : ℕ) (bytes front rest piece : List ℕ) (e : ReadError) → piece ≡ front ++ rest → IsRefusedBy longest (bytes ++ front) rest e → IsRefusedBy longest bytes piece e
refused_in_rest longest bytes front rest piece (BadInput number found) cut bad =
    let all : (bytes ++ front) ++ rest ≡ bytes ++ piece = append_assoc bytes front rest ∙ ap (λ (zs : List ℕ). bytes ++ zs) (sym cut) in
    let behind = bad.behind in
    record {
      bad = subst (λ (zs : List ℕ). IsBadPlace longest (lines_begun longest zs) number found) all bad.bad;
      behind = omega (arith, fewer_before longest bytes front);
    }
refused_in_rest longest bytes front rest piece (TooMuchInput limit) cut bad = bad
refused_in_rest longest bytes front rest piece ReadFault cut bad = bad
refused_in_rest longest bytes front rest piece OutOfMemory cut bad = tt

-- so much of a piece was read
pub record Within (first now : Reader) (objects more : List Object) (piece rest : List ℕ) : Type 0 where
  pub front : List ℕ
  pub cut : piece ≡ front ++ rest
  pub fed : now.fed ≡ first.fed + length front
  pub holds : (longest : ℕ) (bytes : List ℕ) → HasReadLines longest bytes first objects → HasReadLines longest (bytes ++ front) now more

pub some_more : (first now next : Reader) (objects more others : List Object) (piece rest : List ℕ) (used n : ℕ) → Within first now objects more piece rest →
    ((longest : ℕ) (bytes : List ℕ) → HasReadLines longest bytes now more → HasReadLines longest (bytes ++ take used rest) next others) →
    used ≤ length rest → next.fed ≡ now.fed + used → n ≡ length rest - used → Within first next objects others piece (take n (drop used rest))
some_more first now next objects more others piece rest used n w step most count is =
    let whole : take n (drop used rest) ≡ drop used rest = take_all n (drop used rest) (omega (arith, length-drop used rest)) in
    let before = w.fed in
    rw whole (record {
      front = w.front ++ take used rest;
      cut = w.cut ∙ (ap (λ (zs : List ℕ). w.front ++ zs) (sym (take-append-drop used rest)) ∙ sym (append_assoc w.front (take used rest) (drop used rest)));
      fed = omega (arith, length-append w.front (take used rest), length-take used rest);
      holds = λ longest bytes h.
          subst (λ (zs : List ℕ). HasReadLines longest zs next others) (append_assoc bytes w.front (take used rest)) (step longest (bytes ++ w.front) (w.holds longest bytes h));
    })

pub all_within : (first now : Reader) (objects more : List Object) (piece rest : List ℕ) → Within first now objects more piece rest → length rest ≡ 0 →
    (longest : ℕ) (bytes : List ℕ) → HasReadLines longest bytes first objects → HasReadLines longest (bytes ++ piece) now more
all_within first now objects more piece [] w none longest bytes h =
    subst (λ (zs : List ℕ). HasReadLines longest (bytes ++ zs) now more) (sym (w.cut ∙ append-nil w.front)) (w.holds longest bytes h)
all_within first now objects more piece (b ∷ rest) w none longest bytes h = absurd (omega arith)
