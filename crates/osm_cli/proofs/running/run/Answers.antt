use Rattle.std.proofs.Common.{map, string_bytes, ◌∙◌, ap}
use Rattle.osm_words.specs.Words.{job_asked}
use Rattle.osm_cli.proofs.Endings.{ran}
use Rattle.osm_cli.proofs.running.run.Goals as goal

pub returns-clause-ran : goal.returns-clause-ran
returns-clause-ran g c =
    ran c.streams_append.ensures (job_asked (map string_bytes c.args.words.now)) c.work-ended.result (g.H.Host.seen c.args.host.now) (g.H.Host.seen c.work-ended.new.host) (g.H.Host.seen c.write_all_report.new.host)
    c.work-ended.ensures c.write_all_report.ensures.rest c.as_slice.result.now c.write_all_report.result (c.as_slice.ensures ∙ c.last_line-line.ensures)
    c.write_all_report.ensures.all c.write_all_report.ensures.front c.write_all_report.ensures.some c.write_all_report.ensures.cause

pub returns-clause-plain : goal.returns-clause-plain
returns-clause-plain g c = λ options file plain same. ap job_asked same ∙ c.plain_words_are_taken.ensures options file plain

pub returns-clause-plain_coastline : goal.returns-clause-plain_coastline
returns-clause-plain_coastline g c = λ options file plain same. ap job_asked same ∙ c.plain_coastline_words_are_taken.ensures options file plain

pub returns-clause-plain_sample : goal.returns-clause-plain_sample
returns-clause-plain_sample g c = λ written count plain same. ap job_asked same ∙ c.plain_sample_words_are_taken.ensures written count plain

pub returns-clause-plain_filter : goal.returns-clause-plain_filter
returns-clause-plain_filter g c = λ options file plain same. ap job_asked same ∙ c.plain_filter_words_are_taken.ensures options file plain

pub returns-clause-plain_certify : goal.returns-clause-plain_certify
returns-clause-plain_certify g c = λ options file text plain same. ap job_asked same ∙ c.plain_certify_words_are_taken.ensures options file text plain

pub returns-clause-plain_locate : goal.returns-clause-plain_locate
returns-clause-plain_locate g c = λ options file points plain same. ap job_asked same ∙ c.plain_locate_words_are_taken.ensures options file points plain
