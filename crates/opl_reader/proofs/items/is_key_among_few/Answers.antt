use Rattle.std.proofs.Common.{◌-◌, ◌∙◌, refl, sym, ap, arith, take, List}
use Rattle.std.specs.List.{list_any}
use Rattle.osm_elements.specs.declared.object.Tag.{Tag}
use Rattle.osm_elements.specs.Seen.{tag_seen}
use Rattle.opl_reader.proofs.TagLemmas.{has_this, few_none, few_hit, few_miss, few_end}
use Rattle.opl_reader.proofs.items.is_key_among_few.Goals as goal

pub loop-init : goal.loop-init
loop-init c = (16, refl, ap (λ (zs : List Tag). list_any (has_this c.args.key.now) (take 16 zs)) c.iter-rest.ensures)

pub returns-in_default : goal.returns-in_default
returns-in_default c = few_none c.args.key.now c.loop.invariant.0 c.loop.rest _ c.in_default.ensures.tag c.loop.invariant.2

pub returns-then-eq : goal.returns-then-eq
returns-then-eq c =
    let i = c.loop.invariant in
    let counted = i.1 in
    let lt = c.loop-test.true in
    few_hit c.args.key.now i.0 (i.0 - 1) c.loop.rest c.next.new.self (tag_seen c.in-Some.tag) _ (omega arith) c.in-Some.ensures.tag (sym c.eq.ensures ∙ c.if-eq.true) i.2

pub loop-preserved : goal.loop-preserved
loop-preserved c =
    let i = c.loop.invariant in
    let counted = i.1 in
    let lt = c.loop-test.true in
    (i.0 - 1, omega arith, few_miss c.args.key.now i.0 (i.0 - 1) c.loop.rest c.next.new.self (tag_seen c.in-Some.tag) _ (omega arith) c.in-Some.ensures.tag (sym c.eq.ensures ∙ c.if-eq.false) i.2)

pub returns : goal.returns
returns c =
    let i = c.loop.invariant in
    let counted = i.1 in
    let le = c.loop-test.false in
    let end = c.loop.auto.counter-end in
    few_end c.args.key.now i.0 c.loop.rest _ (omega arith) i.2
