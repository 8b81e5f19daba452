-- One more argument.
use Rattle.std.proofs.Common.{◌≡◌, ◌∙◌, ◌+◌, ◌<◌, ◌++◌, ◌∷◌, [], ℕ, List, All, false, ap, get_or, length, map, subst, sym, take}
use Rattle.std.proofs.lemmas.List.{map-append, take_more}
use Rattle.std.proofs.lemmas.List.Elements.{All-push}
use Rattle.clap.specs.Words.{Rule, rule_of}
use Rattle.clap.specs.declared.builder.arg.Arg.{Arg}
use Rattle.osm_words.specs.declared.arguments.Argument.{Argument}
use Rattle.osm_words.specs.Told.{rule_told}
use Rattle.osm_words.proofs.arguments.arguments_of.Goals as goal

told_on : (before now : List Arg) (a : Arg) (all : List Argument) (k : ℕ) (d : Argument) → now ≡ before ++ a ∷ [] → rule_of a ≡ rule_told (get_or all k d) → k < length all →
    map (λ (x : Arg). rule_of x) before ≡ map rule_told (take k all) → map (λ (x : Arg). rule_of x) now ≡ map rule_told (take (k + 1) all)
told_on before now a all k d added same less so_far =
    let rules : List Arg → List Rule = map (λ (x : Arg). rule_of x) in
    ap rules added ∙ map-append (λ (x : Arg). rule_of x) before (a ∷ []) ∙ ap (λ (zs : List Rule). zs ++ rule_of a ∷ []) so_far
    ∙ ap (λ (z : Rule). map rule_told (take k all) ++ z ∷ []) same
    ∙ sym (map-append rule_told (take k all) (get_or all k d ∷ [])) ∙ ap (map rule_told) (sym (take_more all k d less))

pub loop-of-preserved : goal.loop-of-preserved
loop-of-preserved c =
    let before = c.loop-of.arguments.items in
    let a = c.clap_argument.result in
    let added = c.in_ok-push.ensures.items in
    record {
      rules = told_on before c.push.new.self.items a c.args.all.now c.loop-of.of-index _ added c.clap_argument.ensures.rule c.loop-of-test.true c.loop-of.invariant.rules;
      local = subst (λ (xs : List Arg). All (λ (x : Arg). x.global ≡ false) xs) (sym added) (All-push (λ (x : Arg). x.global ≡ false) before a c.loop-of.invariant.local c.clap_argument.ensures.local);
    }
