use Rattle.eps_pointers.proofs.Bytes.{eps_back, ile_back, healed, behind}
use Rattle.eps_pointers.proofs.laws.bytes_read_back.Goals as goal

pub returns-clause-pointer_bytes : goal.returns-clause-pointer_bytes
returns-clause-pointer_bytes c = eps_back

pub returns-clause-entry_bytes : goal.returns-clause-entry_bytes
returns-clause-entry_bytes c = ile_back

pub returns-clause-healed : goal.returns-clause-healed
returns-clause-healed c = healed

pub returns-clause-behind : goal.returns-clause-behind
returns-clause-behind c = behind
