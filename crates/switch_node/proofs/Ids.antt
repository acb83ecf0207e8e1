-- Ids are told apart by `same_id`.
use Rattle.std.specs.Cmp.{IsEquivalence, nat_eq_equiv, on_equiv, and_equiv}
use Rattle.claim_model.specs.Words.{TxnId}
use Rattle.claim_model.specs.Readable.{same_id}

pub same_id_laws : IsEquivalence same_id
same_id_laws = and_equiv (on_equiv (λ (id : TxnId). id.pharmacy) nat_eq_equiv) (on_equiv (λ (id : TxnId). id.number) nat_eq_equiv)
