-- The longitude and the latitude, each with what stands before it.
use Rattle.std.proofs.Common.{◌≡◌, ◌∙◌, ◌++◌, ap, rules, subst, sym, w32, w64, FitsSigned, OnOk, Option, ℤ}
use Rattle.std.proofs.lemmas.Int.{to_z-of_z}
use Rattle.std.proofs.lemmas.Result.{on_ok_weaker}
use Rattle.osm_lattice.specs.declared.loc.Loc.{Loc}
use Rattle.osm_notation.specs.Decimal.{units_text}
use Rattle.opl_writer.specs.Written.{place_fields}
use Rattle.opl_writer.proofs.KeptParts.{last_of_four, none_added, one_added, two_added}
use Rattle.opl_writer.proofs.ThreeParts.{four_added}
use Rattle.opl_writer.proofs.fields.put_place.Goals as goal

pub returns-in_err-extend_from_slice-clause-kept : goal.returns-in_err-extend_from_slice-clause-kept
returns-in_err-extend_from_slice-clause-kept c = none_added c.from_residual.result c.args.text.now.items c.extend_from_slice.new.self.items c.in_err-extend_from_slice.ensures.items

pub returns-in_err-put_coordinate-clause-kept : goal.returns-in_err-put_coordinate-clause-kept
returns-in_err-put_coordinate-clause-kept c =
    one_added c.from_residual-in_err-put_coordinate.result c.args.text.now.items c.extend_from_slice.new.self.items _ c.in_ok-extend_from_slice.ensures.items c.put_coordinate.new.text.items c.in_err-put_coordinate.ensures.kept

pub returns-in_err-extend_from_slice-2-clause-kept : goal.returns-in_err-extend_from_slice-2-clause-kept
returns-in_err-extend_from_slice-2-clause-kept c =
    two_added c.from_residual-in_err-extend_from_slice-2.result c.args.text.now.items c.extend_from_slice.new.self.items _ c.in_ok-extend_from_slice.ensures.items c.put_coordinate.new.text.items _ c.in_ok-put_coordinate.ensures.text
    c.extend_from_slice-2.new.self.items c.in_err-extend_from_slice-2.ensures.items

pub returns-clause-text : goal.returns-clause-text
returns-clause-text c =
    let text = c.args.text.now.items in
    let loc = c.in-Some.place in
    let x = c.extend_from_slice.new.self.items in
    let longitude = c.put_coordinate.new.text.items in
    let y = c.extend_from_slice-2.new.self.items in
    let last = c.put_coordinate-2.new.text.items in
    let east : FitsSigned w32 loc.x = search rules in
    let north : FitsSigned w32 loc.y = search rules in
    let wide : FitsSigned w64 c.from.result = search rules in
    let high : FitsSigned w64 c.from-2.result = search rules in
    let first : longitude ≡ x ++ units_text loc.x = c.in_ok-put_coordinate.ensures.text ∙ ap (λ (z : ℤ). x ++ units_text z) (to_z-of_z w64 c.from.result wide ∙ c.from.ensures ∙ to_z-of_z w32 loc.x east) in
    let same = to_z-of_z w64 c.from-2.result high ∙ c.from-2.ensures ∙ to_z-of_z w32 loc.y north in
    subst (λ (p : Option Loc). OnOk c.put_coordinate-2.result (last ≡ text ++ place_fields p)) (sym c.in-Some.is)
    (on_ok_weaker c.put_coordinate-2.result
    (λ second. four_added text x longitude y last _ _ _ _ c.in_ok-extend_from_slice.ensures.items first c.in_ok-extend_from_slice-2.ensures.items (second ∙ ap (λ (z : ℤ). y ++ units_text z) same))
    c.put_coordinate-2.ensures.text)

pub returns-clause-kept : goal.returns-clause-kept
returns-clause-kept c =
    last_of_four c.put_coordinate-2.result c.args.text.now.items c.extend_from_slice.new.self.items _ c.in_ok-extend_from_slice.ensures.items c.put_coordinate.new.text.items _ c.in_ok-put_coordinate.ensures.text
    c.extend_from_slice-2.new.self.items _ c.in_ok-extend_from_slice-2.ensures.items c.put_coordinate-2.new.text.items c.put_coordinate-2.ensures.kept
