use Rattle.osm_notation.proofs.KeptTexts.{kept_added, kept_at_fault, kept_through}
use Rattle.job_export.proofs.entry.put_framed.Goals as goal

pub returns-in_err-put_feature_of-clause-kept : goal.returns-in_err-put_feature_of-clause-kept
returns-in_err-put_feature_of-clause-kept c =
    let before = c.args.text.now.items in let between = c.extend_from_slice.new.self.items in let now = c.put_feature_of.new.text.items in
    kept_at_fault c.from_residual-in_err-put_feature_of.result before now
    (kept_through before between now (kept_added before c.as_bytes.result.now between c.in_ok-extend_from_slice.ensures.items) c.in_err-put_feature_of.ensures.kept)
