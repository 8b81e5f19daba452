-- A run writes the one whole, or a prefix of it.
use Rattle.std.proofs.Common.{Bool, Err, List, Ok, Option, Result, Some, [], ap, append-nil, false, inl, inr, refl, subst, sym, true, ◌++◌, ◌∙◌, ◌≡◌, ◌⊎◌}
use Rattle.osm_host.specs.Outside.{Outside}
use Rattle.osm_input.specs.Laws.{LinesCount}
use Rattle.osm_words.specs.Job.{Job}
use Rattle.osm_words.specs.declared.fault.WordsFault.{WordsFault}
use Rattle.osm_job.specs.Cause.{Cause, by_input, by_itself, by_memory, by_open, by_verdict, by_read, by_words, by_write, cause_of}
use Rattle.osm_job.specs.declared.ended.Ended.{Ended}
use Rattle.osm_job.specs.declared.ended.Ended.TheVariants.{BadWords}
use Rattle.osm_job.specs.Texts.{Texts}
use Rattle.osm_cli.specs.Job.{inputs_of}
use Rattle.osm_job.specs.Prefix.{IsPrefix}
use Rattle.osm_job.specs.Written.{IsWrittenBy, WroteAll, WrotePrefix}
use Rattle.osm_cli.specs.Run.{IsRefused, Writes}
use Rattle.osm_job.specs.Sent.{Sent}
use Rattle.osm_job.specs.Whole.{Whole, silent}
use Rattle.osm_cli.specs.Whole.{IsWhole}
use Rattle.one_output.specs.Laws.{RunsAgree, RunsDontPart, RunsKeepToTheWhole, WholeIsOne}
use Rattle.one_output.specs.Right.{AllRunsKeepTo, AreTold, IsRightForWords, TextsOf, is_unbroken}
use Rattle.plane_lists.proofs.OneRingListKit.{Overlap, overlap}
use Rattle.one_output.proofs.WholeThere.{AreThere, whole-there}

abbrev whole-by : List Sent → Ended → Whole
whole-by written ended = record { written = written; ended = ended }

whole-prefix : (xs ys : List Sent) → xs ≡ ys → IsPrefix xs ys
whole-prefix xs ys h = record { rest = []; whole = sym h ∙ sym (append-nil xs) }

none-prefix : (xs ys : List Sent) → xs ≡ [] → IsPrefix xs ys
none-prefix xs ys h = record { rest = ys; whole = ap (λ (l : List Sent). l ++ ys) (sym h) }

module _ (whole-one : WholeIsOne) (job : Job) (texts : Texts (inputs_of job)) (whole : Whole) (is : IsWhole job texts whole) where
  abbrev Wrote : Bool → Ended → List Sent → Type 0
  Wrote unbroken ended written = IsPrefix written whole.written × (unbroken ≡ true → (written ≡ whole.written) × (ended ≡ whole.ended))

  all-is : (ended : Ended) (written : List Sent) → WroteAll (IsWhole job) (Some texts) ended written → Wrote true ended written
  all-is ended written w =
      let q : whole-by written ended ≡ whole = whole-one job texts (whole-by written ended) whole w is in
      let same : written ≡ whole.written = ap (λ (x : Whole). x.written) q in
      (whole-prefix written whole.written same, λ _. (same, ap (λ (x : Whole). x.ended) q))

  prefix-is : (ended : Ended) (written : List Sent) → WrotePrefix (IsWhole job) (Some texts) written → Wrote false ended written
  prefix-is ended written w =
      (subst (λ (x : Whole). IsPrefix written x.written) (whole-one job texts w.0 whole w.1 is) w.3, λ u. absurd (cc))

  none-is : (ended : Ended) (written : List Sent) → written ≡ [] → Wrote false ended written
  none-is ended written w = (none-prefix written whole.written w, λ u. absurd (cc))

  memory-is : (ended : Ended) (written : List Sent) → (written ≡ []) ⊎ (WrotePrefix (IsWhole job) (Some texts) written) → Wrote false ended written
  memory-is ended written (inl w) = none-is ended written w
  memory-is ended written (inr w) = prefix-is ended written w

  written-is : (cause : Cause) (ended : Ended) (written : List Sent) → IsWrittenBy (IsWhole job) cause (Some texts) ended written → Wrote (is_unbroken cause) ended written
  written-is by_itself ended written w = all-is ended written w
  written-is by_words ended written w = absurd w
  written-is by_input ended written w = all-is ended written w.1
  written-is by_verdict ended written w = all-is ended written w.1
  written-is by_open ended written w = none-is ended written w
  written-is by_read ended written w = none-is ended written w
  written-is by_write ended written w = prefix-is ended written w
  written-is by_memory ended written w = memory-is ended written w

  run-writes : (ended : Ended) (before after : Outside) (run : Writes (Ok job) ended before after) → AreTold before (Ok job) texts → Wrote (is_unbroken (cause_of ended)) ended run.written
  run-writes ended before after run told =
      written-is (cause_of ended) ended run.written
      (subst (λ (t : Option (Texts (inputs_of job))). IsWrittenBy (IsWhole job) (cause_of ended) t ended run.written) told run.right)

-- ---- words that are refused
refused-is : (fault : WordsFault) (e : Ended) → is_unbroken (cause_of e) ≡ true → IsRefused fault e → e ≡ BadWords fault
refused-is fault e u (inl h) = absurd (cc (sym u ∙ ap (λ (x : Ended). is_unbroken (cause_of x)) h))
refused-is fault e u (inr h) = h

-- ---- any words
module _ (whole-one : WholeIsOne) where
  right-one : (words : Result Job WordsFault) (texts : TextsOf words) (v w : Whole) → IsRightForWords words texts v → IsRightForWords words texts w → v ≡ w
  right-one (Ok job) texts v w s t = whole-one job texts v w s t
  right-one (Err fault) texts v w s t = s ∙ sym t

  keeps-to : (words : Result Job WordsFault) (texts : TextsOf words) (whole : Whole) → IsRightForWords words texts whole → AllRunsKeepTo words texts whole
  keeps-to (Ok job) texts whole is ended before after run told =
      let wrote = run-writes whole-one job texts whole is ended before after run told in record { front = wrote.0; all = wrote.1 }
  keeps-to (Err fault) texts whole is ended before after run told = record {
    front = none-prefix run.written whole.written run.right.1;
    all = λ unbroken. (run.right.1 ∙ ap (λ (w : Whole). w.written) (sym is), refused-is fault ended unbroken run.right.0 ∙ ap (λ (w : Whole). w.ended) (sym is));
  }

-- ---- the whole that a run has at hand
abbrev Wholes : (words : Result Job WordsFault) → TextsOf words → Type 0
Wholes words texts = (whole : Whole) × IsRightForWords words texts whole

module _ (job : Job) (texts : Texts (inputs_of job)) (ended : Ended) (written : List Sent) where
  abbrev WrittenBy : Cause → Type 0
  WrittenBy cause = IsWrittenBy (IsWhole job) cause (Some texts) ended written

  unbroken-by : (cause : Cause) → is_unbroken cause ≡ true → WrittenBy cause → Wholes (Ok job) texts
  unbroken-by by_itself u w = (whole-by written ended, w)
  unbroken-by by_words u w = absurd w
  unbroken-by by_input u w = (whole-by written ended, w.1)
  unbroken-by by_verdict u w = (whole-by written ended, w.1)
  unbroken-by by_open u w = absurd (cc)
  unbroken-by by_read u w = absurd (cc)
  unbroken-by by_write u w = absurd (cc)
  unbroken-by by_memory u w = absurd (cc)

  prefix-of : WrotePrefix (IsWhole job) (Some texts) written → Wholes (Ok job) texts
  prefix-of w = (w.0, w.1)

  memory-of : (written ≡ []) ⊎ (WrotePrefix (IsWhole job) (Some texts) written) → (written ≡ []) ⊎ Wholes (Ok job) texts
  memory-of (inl w) = inl w
  memory-of (inr w) = inr (prefix-of w)

  found-by : (cause : Cause) → WrittenBy cause → (written ≡ []) ⊎ Wholes (Ok job) texts
  found-by by_itself w = inr (whole-by written ended, w)
  found-by by_words w = absurd w
  found-by by_input w = inl w.0
  found-by by_verdict w = inl w.0
  found-by by_open w = inl w
  found-by by_read w = inl w
  found-by by_write w = inr (prefix-of w)
  found-by by_memory w = memory-of w

right-told : (job : Job) (texts : Texts (inputs_of job)) (ended : Ended) (before after : Outside) (run : Writes (Ok job) ended before after) → AreTold before (Ok job) texts →
    IsWrittenBy (IsWhole job) (cause_of ended) (Some texts) ended run.written
right-told job texts ended before after run told =
    subst (λ (t : Option (Texts (inputs_of job))). IsWrittenBy (IsWhole job) (cause_of ended) t ended run.written) told run.right

-- a run that neither the host nor memory ended has a whole
whole-at-hand : (words : Result Job WordsFault) (texts : TextsOf words) (ended : Ended) (before after : Outside) (run : Writes words ended before after) → AreTold before words texts → is_unbroken (cause_of ended) ≡ true → Wholes words texts
whole-at-hand (Ok job) texts ended before after run told u = unbroken-by job texts ended run.written (cause_of ended) u (right-told job texts ended before after run told)
whole-at-hand (Err fault) texts ended before after run told u = (silent (BadWords fault), refl)

-- each other one has one, or wrote nothing
none-or-whole : (words : Result Job WordsFault) (texts : TextsOf words) (ended : Ended) (before after : Outside) (run : Writes words ended before after) → AreTold before words texts → (run.written ≡ []) ⊎ Wholes words texts
none-or-whole (Ok job) texts ended before after run told = found-by job texts ended run.written (cause_of ended) (right-told job texts ended before after run told)
none-or-whole (Err fault) texts ended before after run told = inl run.right.1

-- ---- two runs
-- two prefixes of one list
prefixes-by : (a b c d : List Sent) → (Overlap a b c d) ⊎ (Overlap c d a b) → IsPrefix a c ⊎ IsPrefix c a
prefixes-by a b c d (inl o) = inl (record { rest = o.middle; whole = o.longer })
prefixes-by a b c d (inr o) = inr (record { rest = o.middle; whole = o.longer })

prefixes-of-one : (a c all : List Sent) → IsPrefix a all → IsPrefix c all → IsPrefix a c ⊎ IsPrefix c a
prefixes-of-one a c all p q = prefixes-by a p.rest c q.rest (overlap a p.rest c q.rest (sym p.whole ∙ q.whole))

module _ (whole-one : WholeIsOne) where
  pub runs-agree : RunsAgree
  runs-agree words texts e b a v f c d w told told_2 u u_2 =
      let whole = whole-at-hand words texts e b a v told u in
      let p = (keeps-to whole-one words texts whole.0 whole.1 e b a v told).all u in
      let q = (keeps-to whole-one words texts whole.0 whole.1 f c d w told_2).all u_2 in
      (p.0 ∙ sym q.0, p.1 ∙ sym q.1)

  part-by : (words : Result Job WordsFault) (texts : TextsOf words) (e : Ended) (b a : Outside) (v : Writes words e b a) (f : Ended) (c d : Outside) (w : Writes words f c d) →
      AreTold b words texts → AreTold c words texts → (v.written ≡ []) ⊎ Wholes words texts → IsPrefix v.written w.written ⊎ IsPrefix w.written v.written
  part-by words texts e b a v f c d w told told_2 (inl none) = inl (none-prefix v.written w.written none)
  part-by words texts e b a v f c d w told told_2 (inr whole) =
      prefixes-of-one v.written w.written whole.0.written
      (keeps-to whole-one words texts whole.0 whole.1 e b a v told).front (keeps-to whole-one words texts whole.0 whole.1 f c d w told_2).front

  pub runs-dont-part : RunsDontPart
  runs-dont-part words texts e b a v f c d w told told_2 =
      part-by words texts e b a v f c d w told told_2 (none-or-whole words texts e b a v told)

-- ---- the one whole of words and texts
module _ (whole-one : WholeIsOne) (count : LinesCount) (are : AreThere) where
  right-there : (words : Result Job WordsFault) (texts : TextsOf words) → Wholes words texts
  right-there (Ok job) texts = whole-there count are job texts
  right-there (Err fault) texts = (silent (BadWords fault), refl)

  pub keep-to-the-whole : RunsKeepToTheWhole
  keep-to-the-whole words texts =
      let whole = right-there words texts in (
        whole.0,
        λ other. (λ is. right-one whole-one words texts other whole.0 is whole.1, λ same. subst (IsRightForWords words texts) (sym same) whole.1),
        keeps-to whole-one words texts whole.0 whole.1,
      )
