use Rattle.std.proofs.Common.{◌≡◌, ◌∙◌, ◌++◌, List, ℕ, true, take, drop, sym, ap}
use Rattle.std.specs.List.{list_all}
use Rattle.std.proofs.lemmas.List.{take-append-drop}
use Rattle.osm_notation.specs.Written.{is_plain, written}
use Rattle.osm_notation.proofs.StringLemmas.{plain-boundary, plain-put, nothing-left}
use Rattle.osm_notation.proofs.KeptTexts.{kept_at_fault, kept_further, kept_through}
use Rattle.osm_notation.proofs.strings.put_written.Goals as goal

pub split_at-requires : goal.split_at-requires
split_at-requires c =
    let same = c.as_bytes.ensures.value in
    plain-boundary c.loop-rest.rest.now c.plain_len.result c.loop-rest.invariant.utf8 (rw same at c.plain_len.ensures.bound) (rw same at c.plain_len.ensures.plain)

pub loop-rest-preserved : goal.loop-rest-preserved
loop-rest-preserved c =
    let rest = c.loop-rest.rest.now in
    let len = c.plain_len.result in
    let old = c.loop-rest.bytes.items in
    let new = c.extend_from_slice.new.self.items in
    let all : list_all is_plain (take len rest) ≡ true = rw c.as_bytes.ensures.value at c.plain_len.ensures.plain in
    let put : new ≡ old ++ take len rest = c.in_ok-extend_from_slice.ensures.items ∙ ap (λ (xs : List ℕ). old ++ xs) (c.as_bytes-in-loop-rest.ensures.value ∙ c.split_at.ensures.front) in
    record {
      utf8 = c.in_ok-rest.ensures.utf8;
      whole = c.in_ok-rest.ensures.text ∙ ap (λ (xs : List ℕ). new ++ written xs) c.split_at.ensures.back ∙ plain-put old new rest (take len rest) (drop len rest) (sym (take-append-drop len rest)) all put ∙ c.loop-rest.invariant.whole;
      kept = kept_through c.args.bytes.now.items new c.put_first.new.bytes.items (kept_further c.args.bytes.now.items old (take len rest) new c.loop-rest.invariant.kept put) c.put_first.ensures.kept;
    }

pub returns-clause-text : goal.returns-clause-text
returns-clause-text c = nothing-left c.loop-rest.bytes.items c.loop-rest.rest.now _ (sym c.loop-rest-test.ensures) c.loop-rest.invariant.whole

pub returns-in_err-rest-clause-kept : goal.returns-in_err-rest-clause-kept
returns-in_err-rest-clause-kept c =
    let text = c.args.bytes.now.items in
    let old = c.loop-rest.bytes.items in
    let new = c.extend_from_slice.new.self.items in
    let put : new ≡ old ++ c.as_bytes-in-loop-rest.result.now = c.in_ok-extend_from_slice.ensures.items in
    let kept = kept_further text old c.as_bytes-in-loop-rest.result.now new c.loop-rest.invariant.kept put in
    kept_at_fault c.from_residual-in_err-rest.result text c.put_first.new.bytes.items (kept_through text new c.put_first.new.bytes.items kept c.put_first.ensures.kept)
