-- Texts that are written one after the other.
use Rattle.std.proofs.Common.{◌≡◌, ◌∙◌, refl, sym, ap, ap₂, subst, ℕ, ◌+◌, ◌<◌, ◌≤◌, List, [], ◌∷◌, ◌++◌, length, map, take, drop, get_or, append-nil, arith, Option, Result, Ok, Err, OnOk, OnErr, Vec}
use Rattle.std.specs.List.{flat_map}
use Rattle.std.specs.declared.alloc.Global.{Global}
use Rattle.std.proofs.lemmas.List.{take_more, take-append-drop, take_all, map-append}
use Rattle.std.proofs.lemmas.Grind.{flat_map-append}
use Rattle.osm_host.specs.Outside.{Outside, appended, Counts, OnlyWritesOut, OnlyWritesReport}
use Rattle.osm_host.specs.declared.host.Failed.{Failed}
use Rattle.osm_host.proofs.Streams.{appended_nothing, appended_twice}
use Rattle.osm_job.specs.Writes.{OnlyWrites, Added, IsSent, Wrote}
use Rattle.osm_job.specs.Sent.{Sent, to_output, to_report, output_of, report_of}
use Rattle.osm_job.proofs.Prefixes.{take_is_prefix, prefix_behind, prefix_of_longer, prefix_of_map}

-- ---- what goes where

pub output_of-append : (xs ys : List Sent) → output_of (xs ++ ys) ≡ output_of xs ++ output_of ys
output_of-append [] ys = refl
output_of-append (to_output byte ∷ xs) ys = ap (λ (bytes : List ℕ). byte ∷ bytes) (output_of-append xs ys)
output_of-append (to_report byte ∷ xs) ys = output_of-append xs ys

report_of-append : (xs ys : List Sent) → report_of (xs ++ ys) ≡ report_of xs ++ report_of ys
report_of-append [] ys = refl
report_of-append (to_output byte ∷ xs) ys = report_of-append xs ys
report_of-append (to_report byte ∷ xs) ys = ap (λ (bytes : List ℕ). byte ∷ bytes) (report_of-append xs ys)

pub output_of_output : (bytes : List ℕ) → output_of (map to_output bytes) ≡ bytes
output_of_output [] = refl
output_of_output (byte ∷ bytes) = ap (λ (rest : List ℕ). byte ∷ rest) (output_of_output bytes)

report_of_output : (bytes : List ℕ) → report_of (map to_output bytes) ≡ []
report_of_output [] = refl
report_of_output (byte ∷ bytes) = report_of_output bytes

output_of_report : (bytes : List ℕ) → output_of (map to_report bytes) ≡ []
output_of_report [] = refl
output_of_report (byte ∷ bytes) = output_of_report bytes

report_of_report : (bytes : List ℕ) → report_of (map to_report bytes) ≡ bytes
report_of_report [] = refl
report_of_report (byte ∷ bytes) = ap (λ (rest : List ℕ). byte ∷ rest) (report_of_report bytes)

-- the output of a piece, of report lines behind it and of what follows
pub piece_out : (piece report : List ℕ) (rest : List Sent) → output_of (map to_output piece ++ map to_report report ++ rest) ≡ piece ++ output_of rest
piece_out piece report rest =
    output_of-append (map to_output piece ++ map to_report report) rest
    ∙ ap (λ (bytes : List ℕ). bytes ++ output_of rest)
    (output_of-append (map to_output piece) (map to_report report) ∙ ap₂ (λ (a b : List ℕ). a ++ b) (output_of_output piece) (output_of_report report) ∙ append-nil piece)

-- ---- one behind the other

only_both : (before middle now : Outside) → OnlyWrites before middle → OnlyWrites middle now → OnlyWrites before now
only_both before middle now first then = record {
  named = then.named ∙ first.named;
  left = then.left ∙ first.left;
  opens = then.opens ∙ first.opens;
  open_faults = then.open_faults ∙ first.open_faults;
  read_faults = then.read_faults ∙ first.read_faults;
  bytes_read = then.bytes_read ∙ first.bytes_read;
}

pub nothing_added : (o : Outside) → Added [] o o
nothing_added o = record {
  out = sym (appended_nothing o.out);
  report = sym (appended_nothing o.report);
  never_falls = omega arith;
  rest = record { named = refl; left = refl; opens = refl; open_faults = refl; read_faults = refl; bytes_read = refl };
}

pub added_both : (a b : List Sent) (before middle now : Outside) → Added a before middle → Added b middle now → Added (a ++ b) before now
added_both a b before middle now first then = record {
  out = then.out ∙ ap (λ (o : Option (List ℕ)). appended o (output_of b)) first.out ∙ appended_twice before.out (output_of a) (output_of b)
      ∙ ap (λ (bytes : List ℕ). appended before.out bytes) (sym (output_of-append a b));
  report = then.report ∙ ap (λ (o : Option (List ℕ)). appended o (report_of b)) first.report ∙ appended_twice before.report (report_of a) (report_of b)
      ∙ ap (λ (bytes : List ℕ). appended before.report bytes) (sym (report_of-append a b));
  never_falls = let x = first.never_falls in let y = then.never_falls in omega arith;
  rest = only_both before middle now first.rest then.rest;
}

sent_both : {T E : Type 0} (a b v w : List Sent) (r : Result T E) → v ≡ a → IsSent b w r → IsSent (a ++ b) (v ++ w) r
sent_both a b v w (Ok done) va s = ap₂ (λ (p q : List Sent). p ++ q) va s
sent_both a b v w (Err e) va s = rw va (prefix_behind a w b s)

counts_both : {T E F : Type 0} (m n k : ℕ) (u : F) (r : Result T E) → Counts {T = F} {E = E} m n (Ok u) → Counts n k r → Counts m k r
counts_both m n k u (Ok done) first then = let e = first.answered in let f = then.answered in record { never_falls = omega arith; failed = tt; answered = omega arith }
counts_both m n k u (Err e) first then = let e = first.answered in let f = then.failed in let g = then.never_falls in record { never_falls = omega arith; failed = omega arith; answered = tt }

-- all of the first was written, and then more or a prefix of it
pub then_more : {T E F : Type 0} (a b : List Sent) (before middle now : Outside) (u : F) (r : Result T E) → Wrote {T = F} {E = E} a before middle (Ok u) → Wrote b middle now r → Wrote (a ++ b) before now r
then_more a b before middle now u r first then = record {
  written = first.written ++ then.written;
  sent = sent_both a b first.written then.written r first.sent then.sent;
  added = added_both first.written then.written before middle now first.added then.added;
  counts = counts_both before.write_faults middle.write_faults now.write_faults u r first.counts then.counts;
}

-- a prefix is one of what is longer too
pub of_longer : {T E T' : Type 0} (a b : List Sent) (before now : Outside) (e : E) → Wrote {T = T} a before now (Err e) → Wrote {T = T'} (a ++ b) before now (Err e)
of_longer a b before now e w = record {
  written = w.written;
  sent = prefix_of_longer w.written a b w.sent;
  added = w.added;
  counts = record { never_falls = w.counts.never_falls; failed = w.counts.failed; answered = tt };
}

pub nothing_wrote : {E : Type 0} (o : Outside) → Wrote {T = Unit {0}} {E = E} [] o o (Ok tt)
nothing_wrote o = record { written = []; sent = refl; added = nothing_added o; counts = record { never_falls = omega arith; failed = tt; answered = refl } }

-- ---- one piece

added_out : (bytes : List ℕ) (before now : Outside) → now.out ≡ appended before.out bytes → before.write_faults ≤ now.write_faults → OnlyWritesOut before now → Added (map to_output bytes) before now
added_out bytes before now is falls rest = record {
  out = is ∙ ap (λ (xs : List ℕ). appended before.out xs) (sym (output_of_output bytes));
  report = rest.report ∙ sym (appended_nothing before.report) ∙ ap (λ (xs : List ℕ). appended before.report xs) (sym (report_of_output bytes));
  never_falls = falls;
  rest = record { named = rest.named; left = rest.left; opens = rest.opens; open_faults = rest.open_faults; read_faults = rest.read_faults; bytes_read = rest.bytes_read };
}

added_report : (bytes : List ℕ) (before now : Outside) → now.report ≡ appended before.report bytes → before.write_faults ≤ now.write_faults → OnlyWritesReport before now → Added (map to_report bytes) before now
added_report bytes before now is falls rest = record {
  out = rest.out ∙ sym (appended_nothing before.out) ∙ ap (λ (xs : List ℕ). appended before.out xs) (sym (output_of_report bytes));
  report = is ∙ ap (λ (xs : List ℕ). appended before.report xs) (sym (report_of_report bytes));
  never_falls = falls;
  rest = record { named = rest.named; left = rest.left; opens = rest.opens; open_faults = rest.open_faults; read_faults = rest.read_faults; bytes_read = rest.bytes_read };
}

pub wrote_out : (bytes : List ℕ) (before now : Outside) (r : Result (Unit {0}) Failed) → OnOk r (now.out ≡ appended before.out bytes) → OnErr r ((n : ℕ) × (now.out ≡ appended before.out (take n bytes))) →
    Counts before.write_faults now.write_faults r → OnlyWritesOut before now → Wrote (map to_output bytes) before now r
wrote_out bytes before now (Ok done) all front counts rest =
    record { written = map to_output bytes; sent = refl; added = added_out bytes before now all counts.never_falls rest; counts = counts }
wrote_out bytes before now (Err e) all front counts rest = record {
  written = map to_output (take front.0 bytes);
  sent = prefix_of_map to_output (take front.0 bytes) bytes (take_is_prefix front.0 bytes);
  added = added_out (take front.0 bytes) before now front.1 counts.never_falls rest;
  counts = counts;
}

pub wrote_report : (bytes : List ℕ) (before now : Outside) (r : Result (Unit {0}) Failed) → OnOk r (now.report ≡ appended before.report bytes) → OnErr r ((n : ℕ) × (now.report ≡ appended before.report (take n bytes))) →
    Counts before.write_faults now.write_faults r → OnlyWritesReport before now → Wrote (map to_report bytes) before now r
wrote_report bytes before now (Ok done) all front counts rest =
    record { written = map to_report bytes; sent = refl; added = added_report bytes before now all counts.never_falls rest; counts = counts }
wrote_report bytes before now (Err e) all front counts rest = record {
  written = map to_report (take front.0 bytes);
  sent = prefix_of_map to_report (take front.0 bytes) bytes (take_is_prefix front.0 bytes);
  added = added_report (take front.0 bytes) before now front.1 counts.never_falls rest;
  counts = counts;
}

-- ---- lines that go to one place, of which the first k are written

module _ (to : ℕ → Sent) {X : Type 0} (g : X → List ℕ) (xs : List X) (k : ℕ) (d : X) (lt : k < length xs) where
  abbrev first_lines : List Sent
  first_lines = map to (flat_map g (take k xs))

  abbrev next_line : List Sent
  next_line = map to (g (get_or xs k d))

  lines_next : flat_map g (take (k + 1) xs) ≡ flat_map g (take k xs) ++ g (get_or xs k d)
  lines_next = ap (flat_map g) (take_more xs k d lt) ∙ flat_map-append g (take k xs) (get_or xs k d ∷ []) ∙ ap (λ (zs : List ℕ). flat_map g (take k xs) ++ zs) (append-nil (g (get_or xs k d)))

  sent_next : map to (flat_map g (take (k + 1) xs)) ≡ first_lines ++ next_line
  sent_next = ap (map to) lines_next ∙ map-append to (flat_map g (take k xs)) (g (get_or xs k d))

  sent_whole : map to (flat_map g xs) ≡ (first_lines ++ next_line) ++ map to (flat_map g (drop (k + 1) xs))
  sent_whole = ap (λ (zs : List X). map to (flat_map g zs)) (sym (take-append-drop (k + 1) xs))
      ∙ ap (map to) (flat_map-append g (take (k + 1) xs) (drop (k + 1) xs))
      ∙ map-append to (flat_map g (take (k + 1) xs)) (flat_map g (drop (k + 1) xs))
      ∙ ap (λ (zs : List Sent). zs ++ map to (flat_map g (drop (k + 1) xs))) sent_next

  -- the next one is written
  pub next_wrote : {E : Type 0} (before middle now : Outside) → Wrote {T = Unit {0}} {E = E} (map to (flat_map g (take k xs))) before middle (Ok tt) →
      Wrote {T = Unit {0}} {E = E} (map to (g (get_or xs k d))) middle now (Ok tt) → Wrote {T = Unit {0}} {E = E} (map to (flat_map g (take (k + 1) xs))) before now (Ok tt)
  next_wrote {E} before middle now first then =
      subst (λ (all : List Sent). Wrote {T = Unit {0}} {E = E} all before now (Ok tt)) (sym sent_next) (then_more first_lines next_line before middle now tt (Ok tt) first then)

  -- the next one isn't
  pub next_failed : {E T : Type 0} (before middle now : Outside) (e : E) → Wrote {T = Unit {0}} {E = E} (map to (flat_map g (take k xs))) before middle (Ok tt) →
      Wrote {T = Unit {0}} {E = E} (map to (g (get_or xs k d))) middle now (Err e) → Wrote {T = T} (map to (flat_map g xs)) before now (Err e)
  next_failed {E} {T} before middle now e first then =
      subst (λ (all : List Sent). Wrote {T = T} {E = E} all before now (Err e)) (sym sent_whole)
      (of_longer {T = Unit {0}} {T' = T} (first_lines ++ next_line) (map to (flat_map g (drop (k + 1) xs))) before now e
      (then_more first_lines next_line before middle now tt (Err e) first then))

-- the line is the same, seen as a slice
pub same_line : (to : ℕ → Sent) (line item : Vec ℕ Global) (bytes : List ℕ) (before now : Outside) (r : Result (Unit {0}) Failed) → line ≡ item → bytes ≡ line.items → Wrote (map to bytes) before now r → Wrote (map to item.items) before now r
same_line to line item bytes before now r is same wrote =
    subst (λ (l : Vec ℕ Global). Wrote (map to l.items) before now r) is (subst (λ (xs : List ℕ). Wrote (map to xs) before now r) same wrote)

-- all are written
pub all_wrote : (to : ℕ → Sent) {X E : Type 0} (g : X → List ℕ) (xs : List X) (n : ℕ) (before now : Outside) → length xs ≤ n → Wrote {T = Unit {0}} {E = E} (map to (flat_map g (take n xs))) before now (Ok tt) →
    Wrote {T = Unit {0}} {E = E} (map to (flat_map g xs)) before now (Ok tt)
all_wrote to {X} {E} g xs n before now all w = let e = take_all n xs all in subst (λ zs. Wrote {T = Unit {0}} {E = E} (map to (flat_map g zs)) before now (Ok tt)) e w
