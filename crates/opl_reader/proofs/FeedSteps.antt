-- One call of feed or finish that was answered, by cases.
use Rattle.std.proofs.Common.{◌≡◌, ◌∙◌, refl, sym, ap, ℕ, ◌+◌, ◌<◌, ◌≤◌, Bool, true, false, nat_lt, ◌==◌, List, [], length, Option, None, Result, Ok, Err, if◌then◌else◌, arith}
use Rattle.std.specs.List.{position_or_len}
use Rattle.std.proofs.lemmas.Bool.{ltb-true, ltb-false, eqb-true, eqb-false}
use Rattle.osm_elements.specs.declared.object.Object.{Object}
use Rattle.opl_reader.specs.declared.fault.LineFault.{LineFault}
use Rattle.opl_reader.specs.LineReading.{reading}
use Rattle.opl_reader.specs.declared.feed.Fed.{Fed}
use Rattle.opl_reader.specs.declared.feed.FeedError.{FeedError}
use Rattle.opl_reader.specs.declared.feed.FeedError.TheVariants.{Line, TooLong, Ended, OutOfMemory}
use Rattle.opl_reader.specs.Lines.{is_newline}
use Rattle.opl_reader.specs.Reader.{Reader}
use Rattle.opl_reader.proofs.LineSplits.{at_most_all}
use Rattle.opl_reader.specs.Feeding.{feeding, finishing, begun, has_newline, fed, with_line, with_last_line}

-- what a call that was answered did
pub data Step (r : Reader) (piece : List ℕ) (f : Fed) (next : Reader) : Type 0 where
  kept : length (begun r piece) ≤ r.longest → position_or_len is_newline piece ≡ length piece → f ≡ fed (length piece) None →
      next ≡ record r { unfinished = begun r piece; fed = r.fed + length piece } → Step r piece f next
  ended : length (begun r piece) ≤ r.longest → position_or_len is_newline piece < length piece → (object : Option Object) → reading (begun r piece) ≡ Ok object →
      f ≡ fed (position_or_len is_newline piece + 1) object →
      next ≡ record r { unfinished = []; line = r.line + 1; fed = r.fed + (position_or_len is_newline piece + 1) } → Step r piece f next

abbrev answer_of : {A : Type 0} → A → Result A FeedError → A
answer_of d (Ok x) = x
answer_of d (Err e) = d

by_reading : (r : Reader) (piece : List ℕ) (f : Fed) (next : Reader) → length (begun r piece) ≤ r.longest → position_or_len is_newline piece < length piece →
    (x : Result (Option Object) LineFault) → reading (begun r piece) ≡ x → with_line r (position_or_len is_newline piece + 1) x ≡ Ok (f, next) → Step r piece f next
by_reading r piece f next short lt (Ok object) e h =
    ended short lt object e (sym (ap (λ (a : Result (Fed × Reader) FeedError). (answer_of (f, next) a).0) h)) (sym (ap (λ (a : Result (Fed × Reader) FeedError). (answer_of (f, next) a).1) h))
by_reading r piece f next short lt (Err fault) e h = absurd (cc)

by_newline : (r : Reader) (piece : List ℕ) (f : Fed) (next : Reader) → length (begun r piece) ≤ r.longest →
    (b : Bool) → has_newline piece ≡ b →
    (if b then with_line r (position_or_len is_newline piece + 1) (reading (begun r piece)) else Ok (fed (length piece) None, record r { unfinished = begun r piece; fed = r.fed + length piece })) ≡ Ok (f, next) →
    Step r piece f next
by_newline r piece f next short true e h = by_reading r piece f next short (ltb-true _ _ e) (reading (begun r piece)) refl h
by_newline r piece f next short false e h =
    kept short (at_most_all piece (ltb-false _ _ e)) (sym (ap (λ (a : Result (Fed × Reader) FeedError). (answer_of (f, next) a).0) h)) (sym (ap (λ (a : Result (Fed × Reader) FeedError). (answer_of (f, next) a).1) h))

by_length : (r : Reader) (piece : List ℕ) (f : Fed) (next : Reader) → (b : Bool) → nat_lt r.longest (length (begun r piece)) ≡ b →
    (if b then Err (TooLong (r.line + 1)) else (if has_newline piece then with_line r (position_or_len is_newline piece + 1) (reading (begun r piece)) else Ok (fed (length piece) None, record r { unfinished = begun r piece; fed = r.fed + length piece }))) ≡ Ok (f, next) →
    Step r piece f next
by_length r piece f next true e h = absurd (cc)
by_length r piece f next false e h = by_newline r piece f next (ltb-false _ _ e) (has_newline piece) refl h

by_end : (r : Reader) (piece : List ℕ) (f : Fed) (next : Reader) → (b : Bool) → b ≡ false →
    (if b then Err Ended else (if nat_lt r.longest (length (begun r piece)) then Err (TooLong (r.line + 1)) else (if has_newline piece then with_line r (position_or_len is_newline piece + 1) (reading (begun r piece)) else Ok (fed (length piece) None, record r { unfinished = begun r piece; fed = r.fed + length piece })))) ≡ Ok (f, next) →
    Step r piece f next
by_end r piece f next true e h = absurd (cc)
by_end r piece f next false e h = by_length r piece f next (nat_lt r.longest (length (begun r piece))) refl h

pub step_of : (r : Reader) (piece : List ℕ) (f : Fed) (next : Reader) → r.has_ended ≡ false → feeding r piece ≡ Ok (f, next) → Step r piece f next
unfolding feeding
step_of r piece f next going h = by_end r piece f next r.has_ended going h

-- ---- a fault

-- what a call did that reports a fault
pub record Refused (r : Reader) (piece : List ℕ) (number : ℕ) (fault : LineFault) : Type 0 where
  pub short : length (begun r piece) ≤ r.longest
  pub newline : position_or_len is_newline piece < length piece
  pub bad : reading (begun r piece) ≡ Err fault
  pub counted : number ≡ r.line + 1

abbrev line_of : ℕ → {A : Type 0} → Result A FeedError → ℕ
line_of d (Ok x) = d
line_of d (Err (Line line fault)) = line
line_of d (Err (TooLong line)) = d
line_of d (Err Ended) = d
line_of d (Err OutOfMemory) = d

abbrev fault_of : LineFault → {A : Type 0} → Result A FeedError → LineFault
fault_of d (Ok x) = d
fault_of d (Err (Line line fault)) = fault
fault_of d (Err (TooLong line)) = d
fault_of d (Err Ended) = d
fault_of d (Err OutOfMemory) = d

refused_reading : (r : Reader) (piece : List ℕ) (number : ℕ) (fault : LineFault) → length (begun r piece) ≤ r.longest → position_or_len is_newline piece < length piece →
    (x : Result (Option Object) LineFault) → reading (begun r piece) ≡ x → with_line r (position_or_len is_newline piece + 1) x ≡ Err (Line number fault) → Refused r piece number fault
refused_reading r piece number fault short lt (Ok object) e h = absurd (cc)
refused_reading r piece number fault short lt (Err other) e h = record {
  short = short;
  newline = lt;
  bad = e ∙ ap (λ (x : LineFault). Err x) (ap (λ (a : Result (Fed × Reader) FeedError). fault_of fault a) h);
  counted = sym (ap (λ (a : Result (Fed × Reader) FeedError). line_of number a) h);
}

refused_newline : (r : Reader) (piece : List ℕ) (number : ℕ) (fault : LineFault) → length (begun r piece) ≤ r.longest →
    (b : Bool) → has_newline piece ≡ b →
    (if b then with_line r (position_or_len is_newline piece + 1) (reading (begun r piece)) else Ok (fed (length piece) None, record r { unfinished = begun r piece; fed = r.fed + length piece })) ≡ Err (Line number fault) →
    Refused r piece number fault
refused_newline r piece number fault short true e h = refused_reading r piece number fault short (ltb-true _ _ e) (reading (begun r piece)) refl h
refused_newline r piece number fault short false e h = absurd (cc)

refused_length : (r : Reader) (piece : List ℕ) (number : ℕ) (fault : LineFault) → (b : Bool) → nat_lt r.longest (length (begun r piece)) ≡ b →
    (if b then Err (TooLong (r.line + 1)) else (if has_newline piece then with_line r (position_or_len is_newline piece + 1) (reading (begun r piece)) else Ok (fed (length piece) None, record r { unfinished = begun r piece; fed = r.fed + length piece }))) ≡ Err (Line number fault) →
    Refused r piece number fault
refused_length r piece number fault true e h = absurd (cc)
refused_length r piece number fault false e h = refused_newline r piece number fault (ltb-false _ _ e) (has_newline piece) refl h

refused_end : (r : Reader) (piece : List ℕ) (number : ℕ) (fault : LineFault) → (b : Bool) →
    (if b then Err Ended else (if nat_lt r.longest (length (begun r piece)) then Err (TooLong (r.line + 1)) else (if has_newline piece then with_line r (position_or_len is_newline piece + 1) (reading (begun r piece)) else Ok (fed (length piece) None, record r { unfinished = begun r piece; fed = r.fed + length piece })))) ≡ Err (Line number fault) →
    Refused r piece number fault
refused_end r piece number fault true h = absurd (cc)
refused_end r piece number fault false h = refused_length r piece number fault (nat_lt r.longest (length (begun r piece))) refl h

pub refused_of : (r : Reader) (piece : List ℕ) (number : ℕ) (fault : LineFault) → feeding r piece ≡ Err (Line number fault) → Refused r piece number fault
unfolding feeding
refused_of r piece number fault h = refused_end r piece number fault r.has_ended h

-- ---- finish

-- what finish did where it answered
pub data Finished (r : Reader) (rest : Option Object) (next : Reader) : Type 0 where
  empty : length r.unfinished ≡ 0 → rest ≡ None → next.line ≡ r.line → Finished r rest next
  one_more : 0 < length r.unfinished → reading r.unfinished ≡ Ok rest → next.line ≡ r.line + 1 → Finished r rest next

finished_reading : (r : Reader) (rest : Option Object) (next : Reader) → 0 < length r.unfinished → (x : Result (Option Object) LineFault) → reading r.unfinished ≡ x →
    with_last_line r x ≡ Ok (rest, next) → Finished r rest next
finished_reading r rest next lt (Ok object) e h =
    one_more lt (e ∙ ap (λ (x : Option Object). Ok x) (ap (λ (a : Result (Option Object × Reader) FeedError). (answer_of (rest, next) a).0) h))
    (sym (ap (λ (a : Result (Option Object × Reader) FeedError). (answer_of (rest, next) a).1.line) h))
finished_reading r rest next lt (Err fault) e h = absurd (cc)

finished_length : (r : Reader) (rest : Option Object) (next : Reader) → (b : Bool) → (length r.unfinished == 0) ≡ b →
    (if b then Ok (None, record r { has_ended = true }) else with_last_line r (reading r.unfinished)) ≡ Ok (rest, next) → Finished r rest next
finished_length r rest next true e h =
    empty (eqb-true _ _ e) (sym (ap (λ (a : Result (Option Object × Reader) FeedError). (answer_of (rest, next) a).0) h))
    (sym (ap (λ (a : Result (Option Object × Reader) FeedError). (answer_of (rest, next) a).1.line) h))
finished_length r rest next false e h = let some = eqb-false (length r.unfinished) 0 e in finished_reading r rest next (omega arith) (reading r.unfinished) refl h

finished_end : (r : Reader) (rest : Option Object) (next : Reader) → (b : Bool) →
    (if b then Err Ended else (if length r.unfinished == 0 then Ok (None, record r { has_ended = true }) else with_last_line r (reading r.unfinished))) ≡ Ok (rest, next) → Finished r rest next
finished_end r rest next true h = absurd (cc)
finished_end r rest next false h = finished_length r rest next (length r.unfinished == 0) refl h

pub finished_of : (r : Reader) (rest : Option Object) (next : Reader) → finishing r ≡ Ok (rest, next) → Finished r rest next
unfolding finishing
finished_of r rest next h = finished_end r rest next r.has_ended h

-- what finish did that reports a fault
pub record LastRefused (r : Reader) (number : ℕ) (fault : LineFault) : Type 0 where
  pub some : 0 < length r.unfinished
  pub bad : reading r.unfinished ≡ Err fault
  pub counted : number ≡ r.line + 1

last_reading : (r : Reader) (number : ℕ) (fault : LineFault) → 0 < length r.unfinished → (x : Result (Option Object) LineFault) → reading r.unfinished ≡ x →
    with_last_line r x ≡ Err (Line number fault) → LastRefused r number fault
last_reading r number fault lt (Ok object) e h = absurd (cc)
last_reading r number fault lt (Err other) e h = record {
  some = lt;
  bad = e ∙ ap (λ (x : LineFault). Err x) (ap (λ (a : Result (Option Object × Reader) FeedError). fault_of fault a) h);
  counted = sym (ap (λ (a : Result (Option Object × Reader) FeedError). line_of number a) h);
}

last_length : (r : Reader) (number : ℕ) (fault : LineFault) → (b : Bool) → (length r.unfinished == 0) ≡ b →
    (if b then Ok (None, record r { has_ended = true }) else with_last_line r (reading r.unfinished)) ≡ Err (Line number fault) → LastRefused r number fault
last_length r number fault true e h = absurd (cc)
last_length r number fault false e h = let some = eqb-false (length r.unfinished) 0 e in last_reading r number fault (omega arith) (reading r.unfinished) refl h

last_end : (r : Reader) (number : ℕ) (fault : LineFault) → (b : Bool) →
    (if b then Err Ended else (if length r.unfinished == 0 then Ok (None, record r { has_ended = true }) else with_last_line r (reading r.unfinished))) ≡ Err (Line number fault) → LastRefused r number fault
last_end r number fault true h = absurd (cc)
last_end r number fault false h = last_length r number fault (length r.unfinished == 0) refl h

pub last_refused_of : (r : Reader) (number : ℕ) (fault : LineFault) → finishing r ≡ Err (Line number fault) → LastRefused r number fault
unfolding finishing
last_refused_of r number fault h = last_end r number fault r.has_ended h

-- ---- a line that is too long

abbrev long_line_of : ℕ → {A : Type 0} → Result A FeedError → ℕ
long_line_of d (Ok x) = d
long_line_of d (Err (Line line fault)) = d
long_line_of d (Err (TooLong line)) = line
long_line_of d (Err Ended) = d
long_line_of d (Err OutOfMemory) = d

long_reading : (r : Reader) (used number : ℕ) (x : Result (Option Object) LineFault) → with_line r used x ≡ Err (TooLong number) → ⊥
long_reading r used number (Ok object) h = absurd (cc)
long_reading r used number (Err fault) h = absurd (cc)

long_newline : (r : Reader) (piece : List ℕ) (number : ℕ) (b : Bool) →
    (if b then with_line r (position_or_len is_newline piece + 1) (reading (begun r piece)) else Ok (fed (length piece) None, record r { unfinished = begun r piece; fed = r.fed + length piece })) ≡ Err (TooLong number) → ⊥
long_newline r piece number true h = long_reading r (position_or_len is_newline piece + 1) number (reading (begun r piece)) h
long_newline r piece number false h = absurd (cc)

long_length : (r : Reader) (piece : List ℕ) (number : ℕ) (b : Bool) → nat_lt r.longest (length (begun r piece)) ≡ b →
    (if b then Err (TooLong (r.line + 1)) else (if has_newline piece then with_line r (position_or_len is_newline piece + 1) (reading (begun r piece)) else Ok (fed (length piece) None, record r { unfinished = begun r piece; fed = r.fed + length piece }))) ≡ Err (TooLong number) →
    (r.longest < length (begun r piece)) × (number ≡ r.line + 1)
long_length r piece number true e h = (ltb-true _ _ e, sym (ap (λ (a : Result (Fed × Reader) FeedError). long_line_of number a) h))
long_length r piece number false e h = absurd (long_newline r piece number (has_newline piece) h)

long_end : (r : Reader) (piece : List ℕ) (number : ℕ) (b : Bool) →
    (if b then Err Ended else (if nat_lt r.longest (length (begun r piece)) then Err (TooLong (r.line + 1)) else (if has_newline piece then with_line r (position_or_len is_newline piece + 1) (reading (begun r piece)) else Ok (fed (length piece) None, record r { unfinished = begun r piece; fed = r.fed + length piece })))) ≡ Err (TooLong number) →
    (r.longest < length (begun r piece)) × (number ≡ r.line + 1)
long_end r piece number true h = absurd (cc)
long_end r piece number false h = long_length r piece number (nat_lt r.longest (length (begun r piece))) refl h

pub too_long_of : (r : Reader) (piece : List ℕ) (number : ℕ) → feeding r piece ≡ Err (TooLong number) → (r.longest < length (begun r piece)) × (number ≡ r.line + 1)
unfolding feeding
too_long_of r piece number h = long_end r piece number r.has_ended h
