-- `flush`: a text that was written was handed over.
use Rattle.std.specs.Prelude.{List, ℕ, OnOk, Result, Ok, Err}
use Rattle.sbrlist.specs.Run.{Handed, handed}
use Rattle.sbrlist.proofs.flush.Goals as goal

handed_where_ok : {T E : Type 0} (r : Result T E) (text : List ℕ) → OnOk r (Handed text)
handed_where_ok (Ok _) text = handed text
handed_where_ok (Err _) text = tt

pub returns-clause-handed : goal.returns-clause-handed
returns-clause-handed g c = handed_where_ok c.map_err.result _
