-- The sample can be written, and its text keeps the limits.
use Rattle.std.proofs.Common.{◌≡◌, ◌∙◌, ap, ℕ, ◌*◌, ◌≤◌, arith, refl, Bool, true, if◌then◌else◌, Result, Ok, Err, IfOk, List, [], ◌∷◌, length, filter, All}
use Rattle.std.proofs.lemmas.Nat.{mul-le}
use Rattle.std.proofs.lemmas.List.{length-append}
use Rattle.std.proofs.lemmas.List.Concat.{length-flat_map}
use Rattle.std.proofs.lemmas.List.Sums.{sum_by-le}
use Rattle.std.proofs.lemmas.List.Elements.{All-head, All-map, All-tail, All-weaker}
use Rattle.osm_elements.specs.declared.object.Object.{Object}
use Rattle.osm_elements.specs.declared.object.Object.TheVariants as object
use Rattle.opl_writer.specs.Writable.{IsWritable}
use Rattle.opl_writer.specs.Written.{ended, object_line, objects_text}
use Rattle.osm_objects.specs.Object.{is_live}
use Rattle.osm_job.specs.Whole.{input_limit, longest_line}
use Rattle.opl_writer.specs.ReadBack.Laws.{WrittenInputsAreRead}
use Rattle.osm_sample.specs.Input.{sample_objects}
use Rattle.osm_sample.specs.Laws.{SampleIsRead}
use Rattle.osm_sample.proofs.Rising.{rises_apart}
use Rattle.osm_sample.proofs.Sampled.{IsFine, all_are_fine, all_rise, most_bytes, objects_are_few}

fine_live : (o : Object) → IsFine o → is_live o ≡ true
fine_live (object.Node id live tags place) fine = fine.writable.0
fine_live (object.Way id live tags refs) fine = fine.writable.0
fine_live (object.Relation id live tags members) fine = fine.writable.0

all_live : (os : List Object) → All IsFine os → filter is_live os ≡ os
all_live [] all = refl
all_live (o ∷ os) all =
    ap (λ (b : Bool). if b then o ∷ filter is_live os else filter is_live os) (fine_live o (All-head IsFine o os all))
    ∙ ap (λ (us : List Object). o ∷ us) (all_live os (All-tail IsFine o os all))

few_cells : (n : ℕ) → n ≤ 100 → n * n ≤ 10_000
few_cells n few = mul-le n n 100 100 few few

-- all objects of the sample are live
pub sample_live : (n : ℕ) → n ≤ 100 → filter is_live (sample_objects n) ≡ sample_objects n
sample_live n few = all_live (sample_objects n) (all_are_fine n few (few_cells n few))

pub store_is : {E : Type 0} (r : Result (List Object) E) {given is : List Object} → given ≡ is → IfOk r (λ store. store ≡ given) → IfOk r (λ store. store ≡ is)
store_is (Ok store) same h = h ∙ same
store_is (Err e) same h = tt

-- ---- the length of all

short_text : (os : List Object) → All IsFine os → length (objects_text os) ≤ length os * most_bytes
short_text os fine =
    let bytes = length-flat_map (λ o. ended (object_line o)) os in
    let each : All (λ o. length (ended (object_line o)) ≤ most_bytes) os =
    All-weaker IsFine (λ o. length (ended (object_line o)) ≤ most_bytes) (λ o f. let short = f.short in let both = length-append (object_line o) (10 ∷ []) in omega arith) os fine in
    let most = sum_by-le (λ o. length (ended (object_line o))) most_bytes os each in
    omega arith

pub sample_read : WrittenInputsAreRead → SampleIsRead
sample_read reads n some few =
    let square = few_cells n few in
    let fine = all_are_fine n few square in
    let os = sample_objects n in
    reads input_limit longest_line os
    (record { writable = All-weaker IsFine IsWritable (λ o f. f.writable) os fine; apart = rises_apart 1 3_000_000 os (all_rise n few square) })
    (let short = short_text os fine in let many = objects_are_few n few square in omega arith)
    (All-map (λ line. length line ≤ longest_line) object_line os (All-weaker IsFine (λ o. length (object_line o) ≤ longest_line) (λ o f. let short = f.short in omega arith) os fine))
