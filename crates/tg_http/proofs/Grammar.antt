-- A head of the grammar at the front of a head text.
use Rattle.std.proofs.Common.{◌≡◌, ℕ, List, [], length, sym, ◌∙◌}
use Rattle.std.proofs.lemmas.List.{append-nil}
use Rattle.httparse.specs.Grammar.{RequestHead, print_request, ReadsRequest, ResponseHead, print_response, ReadsResponse}
use Rattle.tg_http.specs.GrammarLines.{reply_text, request_text}
use Rattle.tg_http.specs.HeadText.{HeadText}
use Rattle.tg_http.specs.OneHead.{one_head}

-- a head of the grammar at the front of a head text is the whole of it
pub whole_request : (text rest : List ℕ) (h : RequestHead) (count : ℕ) → HeadText text count → ReadsRequest text h rest
    → ReadsRequest text h [] × (length h.fields ≡ count)
whole_request text rest h count t r =
    let same = one_head (print_request h) text rest [] (length h.fields) count (request_text h r.0) t (sym r.1 ∙ sym (append-nil text)) in
    ((r.0, sym same.0 ∙ sym (append-nil (print_request h))), same.1)

pub whole_reply : (text rest : List ℕ) (h : ResponseHead) (count : ℕ) → HeadText text count → ReadsResponse text h rest
    → ReadsResponse text h [] × (length h.fields ≡ count)
whole_reply text rest h count t r =
    let same = one_head (print_response h) text rest [] (length h.fields) count (reply_text h r.0) t (sym r.1 ∙ sym (append-nil text)) in
    ((r.0, sym same.0 ∙ sym (append-nil (print_response h))), same.1)
