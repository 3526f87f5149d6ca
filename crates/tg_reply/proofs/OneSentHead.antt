-- Bytes that pass the limit, and such as are no request, begin with no request.
use Rattle.std.proofs.Common.{ℕ, List, [], subst, sym}
use Rattle.httparse.specs.Grammar.{ReadsRequest}
use Rattle.tg_http.specs.OneHead.{limit_only, one_beginning}
use Rattle.tg_http.specs.Heads.{HasWholeText, IsNoRequest, PassesLimit}
use Rattle.tg_http.specs.declared.request.RequestHead.{RequestHead}
use Rattle.tg_reply.specs.Streams.{BeginsRequest}

-- bytes that pass the limit have no head text within it
pub limit_not_text : (bytes : List ℕ) (P : List ℕ → Type 0) → PassesLimit bytes → HasWholeText P bytes → ⊥
limit_not_text bytes P l h = limit_only bytes h.0 h.1 l h.2 h.3

-- nor a request
pub limit_not_request : (bytes rest : List ℕ) (head : RequestHead) → PassesLimit bytes → BeginsRequest bytes head rest → ⊥
limit_not_request bytes rest head l h = limit_only bytes h.text h.is_request.count l h.is_request.begins h.is_request.few

-- bytes whose head text is no request begin with none
pub none_not_request : (bytes rest : List ℕ) (head : RequestHead) → HasWholeText IsNoRequest bytes → BeginsRequest bytes head rest → ⊥
none_not_request bytes rest head n h =
    let same = one_beginning bytes n.0 h.text n.1 h.is_request.count n.2 h.is_request.begins in
    n.4 h.tree (subst (λ (l : List ℕ). ReadsRequest l h.tree []) (sym same.0) h.is_request.reads)
