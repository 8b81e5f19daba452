use Rattle.opl_reader.proofs.KeysRead.{told-keys, told-none}
use Rattle.opl_reader.proofs.keys.read_keys.Goals as goal

pub returns-clause-keys : goal.returns-clause-keys
returns-clause-keys c = told-keys c.args.text.now c.keys_of.result c.keys_of.ensures

pub returns-clause-none : goal.returns-clause-none
returns-clause-none c = told-none c.args.text.now c.keys_of.result c.keys_of.ensures
