use Rattle.std.proofs.Common.{◌∙◌, ap, map, string_bytes}
use Rattle.osm_words.specs.Words.{job_asked}
use Rattle.osm_words.proofs.PlainAnswers.{answers_give}
use Rattle.osm_words.proofs.PlainCertify.{plain_certify_asked}
use Rattle.osm_words.proofs.PlainCoastline.{plain_coastline_asked}
use Rattle.osm_words.proofs.PlainExport.{plain_words_asked}
use Rattle.osm_words.proofs.PlainFilter.{plain_filter_asked}
use Rattle.osm_words.proofs.PlainLocate.{plain_locate_asked}
use Rattle.osm_words.proofs.PlainSample.{plain_sample_asked}
use Rattle.osm_words.proofs.words.job_of.Goals as goal

pub returns-clause-plain : goal.returns-clause-plain
returns-clause-plain c = λ options file plain are.
    answers_give (job_asked (map string_bytes c.args.words.now)) _ c.answer.result
    (ap job_asked are ∙ plain_words_asked options file plain) c.answer.ensures

pub returns-clause-plain_coastline : goal.returns-clause-plain_coastline
returns-clause-plain_coastline c = λ options file plain are.
    answers_give (job_asked (map string_bytes c.args.words.now)) _ c.answer.result
    (ap job_asked are ∙ plain_coastline_asked options file plain) c.answer.ensures

pub returns-clause-plain_sample : goal.returns-clause-plain_sample
returns-clause-plain_sample c = λ written count plain are.
    answers_give (job_asked (map string_bytes c.args.words.now)) _ c.answer.result
    (ap job_asked are ∙ plain_sample_asked written count plain) c.answer.ensures

pub returns-clause-plain_filter : goal.returns-clause-plain_filter
returns-clause-plain_filter c = λ options file plain are.
    answers_give (job_asked (map string_bytes c.args.words.now)) _ c.answer.result
    (ap job_asked are ∙ plain_filter_asked options file plain) c.answer.ensures

pub returns-clause-plain_certify : goal.returns-clause-plain_certify
returns-clause-plain_certify c = λ options file text plain are.
    answers_give (job_asked (map string_bytes c.args.words.now)) _ c.answer.result
    (ap job_asked are ∙ plain_certify_asked options file text plain) c.answer.ensures

pub returns-clause-plain_locate : goal.returns-clause-plain_locate
returns-clause-plain_locate c = λ options file points plain are.
    answers_give (job_asked (map string_bytes c.args.words.now)) _ c.answer.result
    (ap job_asked are ∙ plain_locate_asked options file points plain) c.answer.ensures
