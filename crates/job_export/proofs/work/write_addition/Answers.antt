use Rattle.std.proofs.Common.{refl}
use Rattle.osm_words.specs.Answers.{settings_seen}
use Rattle.job_export.proofs.Candidates.{broken_off, feature_waits, feature_written, problems_written, stops_written}
use Rattle.job_export.proofs.work.write_addition.Goals as goal

pub returns-then-len-le-PIECE-clause-wrote : goal.returns-then-len-le-PIECE-clause-wrote
returns-then-len-le-PIECE-clause-wrote g c objects earlier waited is =
    feature_waits (settings_seen c.args.settings.now) objects earlier c.args.candidate waited c.args.waiting.now.items
    (g.H.Host.seen c.args.host.now) c.args.addition.now is (c.if-is_feature_alone.ensures.feature refl) (c.if-is_feature_alone.ensures.alone refl c.args.candidate)

pub returns-in-Err-clause-wrote : goal.returns-in-Err-clause-wrote
returns-in-Err-clause-wrote g c objects earlier waited is =
    broken_off (settings_seen c.args.settings.now) objects earlier c.args.candidate waited c.args.waiting.now.items
    (g.H.Host.seen c.args.host.now) c.args.addition.now is (g.H.Host.seen c.write_waiting.new.host) c.write_waiting.new.waiting.items c.in-Err.halt c.in-Err.ensures.wrote

pub returns-then-addition-clause-wrote : goal.returns-then-addition-clause-wrote
returns-then-addition-clause-wrote g c objects earlier waited is =
    feature_written (settings_seen c.args.settings.now) objects earlier c.args.candidate waited c.args.waiting.now.items
    (g.H.Host.seen c.args.host.now) c.args.addition.now is (g.H.Host.seen c.write_waiting.new.host) c.write_waiting.new.waiting.items c.in_default.ensures.none c.in_default.field-0
    c.in_default.ensures.wrote c.if-addition.true

pub returns-then-settings-clause-wrote : goal.returns-then-settings-clause-wrote
returns-then-settings-clause-wrote g c objects earlier waited is =
    stops_written (settings_seen c.args.settings.now) objects earlier c.args.candidate waited c.args.waiting.now.items
    (g.H.Host.seen c.args.host.now) c.args.addition.now is (g.H.Host.seen c.write_waiting.new.host) c.write_waiting.new.waiting.items c.in_default.ensures.none c.in_default.field-0
    c.in_default.ensures.wrote c.if-addition.false c.if-settings.true

pub returns-clause-wrote : goal.returns-clause-wrote
returns-clause-wrote g c objects earlier waited is =
    problems_written (settings_seen c.args.settings.now) objects earlier c.args.candidate waited c.args.waiting.now.items
    (g.H.Host.seen c.args.host.now) c.args.addition.now is (g.H.Host.seen c.write_waiting.new.host) c.write_waiting.new.waiting.items c.in_default.ensures.none c.in_default.field-0
    c.in_default.ensures.wrote c.if-addition.false c.if-settings.false
