use Rattle.std.proofs.Common.{rules}
use Rattle.osm_cli.proofs.Jobs.{works_alike}
use Rattle.osm_cli.proofs.running.do_job.Goals as goal

pub returns-in-Export : goal.returns-in-Export
returns-in-Export g c = works_alike _ _ c.run_export.result (g.H.Host.seen c.args.host.now) (g.H.Host.seen c.run_export.new.host) c.run_export.ensures (search rules)

pub returns-in-Coastline : goal.returns-in-Coastline
returns-in-Coastline g c = works_alike _ _ c.run_coastline.result (g.H.Host.seen c.args.host.now) (g.H.Host.seen c.run_coastline.new.host) c.run_coastline.ensures (search rules)

pub returns-in-Sample : goal.returns-in-Sample
returns-in-Sample g c = works_alike _ _ c.run_sample.result (g.H.Host.seen c.args.host.now) (g.H.Host.seen c.run_sample.new.host) c.run_sample.ensures (search rules)

pub returns-in-Filter : goal.returns-in-Filter
returns-in-Filter g c = works_alike _ _ c.run_filter.result (g.H.Host.seen c.args.host.now) (g.H.Host.seen c.run_filter.new.host) c.run_filter.ensures (search rules)

pub returns-in-Certify : goal.returns-in-Certify
returns-in-Certify g c = works_alike _ _ c.run_certify.result (g.H.Host.seen c.args.host.now) (g.H.Host.seen c.run_certify.new.host) c.run_certify.ensures (search rules)

pub returns-in-Locate : goal.returns-in-Locate
returns-in-Locate g c = works_alike _ _ c.run_locate.result (g.H.Host.seen c.args.host.now) (g.H.Host.seen c.run_locate.new.host) c.run_locate.ensures (search rules)
