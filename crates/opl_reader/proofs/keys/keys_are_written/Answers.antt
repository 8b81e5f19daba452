use Rattle.opl_reader.proofs.KeysRead.{said_are, are_said}
use Rattle.opl_reader.proofs.keys.keys_are_written.Goals as goal

pub returns-clause-read : goal.returns-clause-read
returns-clause-read c = λ bytes keys e. said_are bytes keys e

pub returns-clause-written : goal.returns-clause-written
returns-clause-written c = λ bytes keys h. are_said bytes keys h
