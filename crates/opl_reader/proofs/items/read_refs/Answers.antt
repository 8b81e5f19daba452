use Rattle.std.proofs.Common.{◌≡◌, ◌∙◌, ◌+◌, List, Option, Some, None, Ok, length, refl, sym, ap}
use Rattle.std.specs.Prelude.{slice_get}
use Rattle.std.specs.Option.{option_copied, unwrap_or}
use Rattle.osm_elements.specs.declared.object.Ref.{Ref}
use Rattle.opl_reader.specs.declared.fault.FaultKind.TheVariants.{BadReference}
use Rattle.opl_reader.specs.ItemReading.{ref_spelled, ref_at, refs_at}
use Rattle.opl_reader.specs.Steps.{left_len}
use Rattle.opl_reader.proofs.ItemLemmas.{begins-all, goes_on, stops, is_read, no_ref, one_ref}
use Rattle.osm_elements.proofs.ElementsKit.{first_more}
use Rattle.opl_reader.proofs.items.read_refs.Goals as goal

pub loop-left-init : goal.loop-left-init
loop-left-init c = rw c.new-refs.ensures (begins-all ref_at c.args.place c.args.text.now c.all_items-left.result c.all_items-left.ensures.value c.all_items-left.ensures.utf8, refl)

pub returns-in_default-reference : goal.returns-in_default-reference
unfolding refs_at
returns-in_default-reference c =
    let next = c.next_ref-reference in
    let f = next.ensures.first in
    let none : None ≡ ref_spelled f.item = sym c.in_default-reference.is ∙ f.read in
    rw c.fault.ensures (stops ref_at c.loop-left.refs c.loop-left.at c.in-Some.rest f.item (option_copied next.result.2) (record { kind = BadReference; place = c.loop-left.at }) c.args.place c.args.text.now f.parts (no_ref c.loop-left.at f.item none) (rw c.in-Some.is at c.loop-left.invariant.0))

pub loop-left-preserved : goal.loop-left-preserved
loop-left-preserved c =
    let next = c.next_ref-reference in
    let f = next.ensures.first in
    let r = c.in-Some-reference.reference in
    let read : Some r ≡ ref_spelled f.item = sym c.in-Some-reference.is ∙ f.read in
    let whole : length f.item + left_len (option_copied next.result.2) ≡ length c.in-Some.rest.now = ap (λ n. n + left_len (option_copied next.result.2)) f.long ∙ f.whole in
    let more = goes_on ref_at c.loop-left.refs c.loop-left.at c.in-Some.rest f.item next.result.2 r c.args.place c.args.text.now f.parts whole next.ensures.utf8 (one_ref c.loop-left.at f.item r read) (rw c.in-Some.is at c.loop-left.invariant.0) in (
      rw c.in_ok-push_behind.ensures.ok (rw f.long at more),
      ap (λ (r : Ref). Some r) (c.unwrap_or.ensures ∙ ap (λ (first : Option Ref). unwrap_or first r) c.loop-left.invariant.1) ∙ sym (ap (λ (refs : List Ref). slice_get refs 0) c.in_ok-push_behind.ensures.ok ∙ first_more c.loop-left.refs r),
    )

pub returns : goal.returns
unfolding refs_at
returns c =
    is_read ref_at c.loop-left.refs c.loop-left.at c.args.place c.args.text.now (rw c.in_default.is at c.loop-left.invariant.0) ∙ ap (λ (refs : List Ref). Ok refs) (sym c.in_ok-without_spare_room.ensures)
