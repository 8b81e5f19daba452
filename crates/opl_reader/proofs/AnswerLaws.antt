-- The clauses of a read line, from what the line is read as.
use Rattle.std.proofs.Common.{◌≡◌, ℕ, List, Option, Some, None, Result, Ok, Err, refl, sym, ◌∙◌, inl, inr}
use Rattle.std.specs.Prelude.{IfOk, IfErr, IfSome, IfNone}
use Rattle.opl_reader.specs.declared.fault.LineFault.{LineFault}
use Rattle.opl_reader.specs.declared.fault.LineError.{LineError}
use Rattle.opl_reader.specs.declared.fault.LineError.TheVariants.{Fault, OutOfMemory}
use Rattle.osm_elements.specs.declared.object.Object.{Object}
use Rattle.opl_reader.specs.Reading.{Gives}
use Rattle.opl_reader.specs.LineReading.{reading}
use Rattle.opl_reader.specs.Spells.{Spells, IsPassedOver}
use Rattle.opl_reader.specs.Faults.{Explains}
use Rattle.opl_reader.specs.OneAnswer.{IsAnswer, HasAnswer, HasNoOther}
use Rattle.opl_reader.proofs.LineLaws.{read_spells, spells_read, read_passed, passed_read}
use Rattle.opl_reader.proofs.FaultLaws.{read_fault, fault_read}

pub clause-object : (line : List ℕ) (r : Result (Option Object) LineError) → Gives r (reading line) → IfOk r (λ o. IfSome o (λ x. Spells line x))
clause-object line (Ok None) g = tt
clause-object line (Ok (Some o)) g = read_spells line o g
clause-object line (Err e) g = tt

pub clause-passed : (line : List ℕ) (r : Result (Option Object) LineError) → Gives r (reading line) → IfOk r (λ o. IfNone o (IsPassedOver line))
clause-passed line (Ok None) g = read_passed line g
clause-passed line (Ok (Some o)) g = tt
clause-passed line (Err e) g = tt

pub clause-fault : (line : List ℕ) (r : Result (Option Object) LineError) → Gives r (reading line) → IfErr r (Explains line)
clause-fault line (Ok o) g = tt
clause-fault line (Err OutOfMemory) g = tt
clause-fault line (Err (Fault x)) g = read_fault line x g

-- ---- one answer

abbrev Answer : Type 0
Answer = Result (Option Object) LineFault

answer_of : (line : List ℕ) (r : Answer) → reading line ≡ r → HasAnswer line
answer_of line (Ok None) e = inl (read_passed line e)
answer_of line (Ok (Some o)) e = inr (inl (o, read_spells line o e))
answer_of line (Err x) e = inr (inr (x, read_fault line x e))

pub an_answer : (line : List ℕ) → HasAnswer line
an_answer line = answer_of line (reading line) refl

pub is_answer : (line : List ℕ) → IsAnswer line
is_answer line = record {
  object = λ o. (read_spells line o, spells_read line o);
  passed = (read_passed line, passed_read line);
  fault = λ x. (read_fault line x, fault_read line x);
}

same_object : (o p : Object) → ◌≡◌ {A = Answer} (Ok (Some o)) (Ok (Some p)) → o ≡ p
same_object o p e = cc

same_fault : (x y : LineFault) → ◌≡◌ {A = Answer} (Err x) (Err y) → x ≡ y
same_fault x y e = cc

some_none : (o : Object) → ◌≡◌ {A = Answer} (Ok (Some o)) (Ok None) → ⊥
some_none o e = absurd cc

ok_err : (o : Option Object) (x : LineFault) → ◌≡◌ {A = Answer} (Ok o) (Err x) → ⊥
ok_err o x e = absurd cc

pub no_other : (line : List ℕ) → HasNoOther line
no_other line = record {
  object = λ o p s t. same_object o p (sym (spells_read line o s) ∙ spells_read line p t);
  fault = λ x y s t. same_fault x y (sym (fault_read line x s) ∙ fault_read line y t);
  object_passed = λ o s p. some_none o (sym (spells_read line o s) ∙ passed_read line p);
  object_fault = λ o x s f. ok_err (Some o) x (sym (spells_read line o s) ∙ fault_read line x f);
  passed_fault = λ x p f. ok_err None x (sym (passed_read line p) ∙ fault_read line x f);
}
