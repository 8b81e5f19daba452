use Rattle.std.proofs.Common.{List, ap, arith, length, subst, ℕ, ◌∙◌}
use Rattle.std.proofs.lemmas.List.{length-append}
use Rattle.osm_words.specs.Answers.{settings_seen}
use Rattle.job_export.specs.Entry.{framed_feature}
use Rattle.job_export.specs.ExportSteps.{WroteLast}
use Rattle.job_export.proofs.Candidates.{last_written}
use Rattle.job_export.proofs.work.write_candidate.Goals as goal

pub returns-in_default-clause-wrote : goal.returns-in_default-clause-wrote
returns-in_default-clause-wrote g c =
    let waited = c.args.waiting.now.items in let before = g.H.Host.seen c.args.host.now in let now = g.H.Host.seen c.write_last.new.host in
    last_written (settings_seen c.args.settings.now) c.args.store.now c.args.earlier c.args.candidate waited waited before c.outcome_exists.ensures c.problem_line_exists.ensures now c.write_last.result c.addition_of.new.waiting.items
    (subst (λ (xs : List ℕ). WroteLast xs before now c.write_last.result) (c.deref.ensures.value ∙ c.in_default.ensures.kept) c.write_last.ensures)

pub write_addition-requires : goal.write_addition-requires
write_addition-requires g c =
    let added = c.in-Ok.ensures.added in
    let feature = framed_feature (settings_seen c.args.settings.now) c.args.store.now c.args.earlier c.args.candidate added.outcome in
    record {
      told = added.kinds;
      within = omega (arith, c.len-begin.ensures, ap length added.piece, length-append c.args.waiting.now.items feature);
    }

pub returns-clause-wrote : goal.returns-clause-wrote
returns-clause-wrote g c = c.write_addition.ensures.wrote c.args.store.now c.args.earlier c.args.waiting.now.items c.in-Ok.ensures.added
