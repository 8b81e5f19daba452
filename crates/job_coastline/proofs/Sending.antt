-- Bytes that are written one after the other, until a run is broken off.
use Rattle.std.proofs.Common.{◌≡◌, ◌∙◌, refl, sym, ap, ap₂, append-nil, append_assoc, arith, List, [], ◌++◌, Result, Ok, Err}
use Rattle.osm_host.specs.Outside.{Outside}
use Rattle.osm_host.specs.declared.host.Failed.{Failed}
use Rattle.osm_job.specs.Sent.{Sent}
use Rattle.osm_job.specs.Writes.{IsSent, Wrote}
use Rattle.osm_job.proofs.Writes.{added_both, nothing_added}
use Rattle.job_coastline.specs.WriteSteps.{BreaksBy, Sends}
use Rattle.job_coastline.specs.declared.writing.BrokenOff.{BrokenOff}
use Rattle.job_coastline.specs.declared.writing.BrokenOff.TheVariants.{WriteFault, OutOfMemory}

pub sends_nothing : (o : Outside) → Sends {T = Unit {0}} [] o o (Ok tt)
sends_nothing o = record { written = []; sent = refl; added = nothing_added o; cause = refl }

-- memory ran out before anything was written
pub sends_none_of : {T : Type 0} (all : List Sent) (o : Outside) → Sends {T = T} all o o (Err OutOfMemory)
sends_none_of all o = record { written = []; sent = record { rest = all; whole = refl }; added = nothing_added o; cause = refl }

sent_behind : {T : Type 0} (a b v w : List Sent) (r : Result T BrokenOff) → v ≡ a → IsSent b w r → IsSent (a ++ b) (v ++ w) r
sent_behind a b v w (Ok done) same sent = ap₂ (λ (xs ys : List Sent). xs ++ ys) same sent
sent_behind a b v w (Err broken) same sent =
    record { rest = sent.rest; whole = ap₂ (λ (xs ys : List Sent). xs ++ ys) (sym same) sent.whole ∙ sym (append_assoc v w sent.rest) }

cause_behind : {T : Type 0} (before middle after : Outside) (r : Result T BrokenOff) → middle.write_faults ≡ before.write_faults → BreaksBy middle after r → BreaksBy before after r
cause_behind before middle after (Ok done) same cause = cause ∙ same
cause_behind before middle after (Err WriteFault) same cause = omega (arith, same, cause)
cause_behind before middle after (Err OutOfMemory) same cause = cause ∙ same

-- all of the first, and then more
pub sends_both : {T : Type 0} (a b : List Sent) (before middle after : Outside) (r : Result T BrokenOff) → Sends {T = Unit {0}} a before middle (Ok tt) → Sends b middle after r → Sends (a ++ b) before after r
sends_both a b before middle after r first then = record {
  written = first.written ++ then.written;
  sent = sent_behind a b first.written then.written r first.sent then.sent;
  added = added_both first.written then.written before middle after first.added then.added;
  cause = cause_behind before middle after r first.cause then.cause;
}

-- a run that is broken off in the first is in both
cause_of_any : (T T' : Type 0) (before after : Outside) (broken : BrokenOff) → BreaksBy {T = T} before after (Err broken) → BreaksBy {T = T'} before after (Err broken)
cause_of_any T T' before after WriteFault cause = cause
cause_of_any T T' before after OutOfMemory cause = cause

pub sends_longer : {T T' : Type 0} (a b : List Sent) (before after : Outside) (broken : BrokenOff) → Sends {T = T} a before after (Err broken) → Sends {T = T'} (a ++ b) before after (Err broken)
sends_longer {T} {T'} a b before after broken sends = record {
  written = sends.written;
  sent = record { rest = sends.sent.rest ++ b; whole = ap (λ (xs : List Sent). xs ++ b) sends.sent.whole ∙ append_assoc sends.written sends.sent.rest b };
  added = sends.added;
  cause = cause_of_any T T' before after broken sends.cause;
}

-- memory ran out behind all of it
pub sends_then_none : {T : Type 0} (all : List Sent) (before after : Outside) → Sends {T = Unit {0}} all before after (Ok tt) → Sends {T = T} all before after (Err OutOfMemory)
sends_then_none all before after sends = record {
  written = sends.written;
  sent = record { rest = []; whole = sym sends.sent ∙ sym (append-nil sends.written) };
  added = sends.added;
  cause = sends.cause;
}

-- what the host answered
pub sends_answered : (all : List Sent) (before after : Outside) → Wrote {T = Unit {0}} {E = Failed} all before after (Ok tt) → Sends {T = Unit {0}} all before after (Ok tt)
sends_answered all before after wrote = record { written = wrote.written; sent = wrote.sent; added = wrote.added; cause = wrote.counts.answered }

pub sends_failed : (all : List Sent) (before after : Outside) (failed : Failed) → Wrote {T = Unit {0}} {E = Failed} all before after (Err failed) → Sends {T = Unit {0}} all before after (Err WriteFault)
sends_failed all before after failed wrote = record { written = wrote.written; sent = wrote.sent; added = wrote.added; cause = wrote.counts.failed }
