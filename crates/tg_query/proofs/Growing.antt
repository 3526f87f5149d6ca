-- A text that grows piece by piece.
use Rattle.std.proofs.Common.{List, [], ap, append_assoc, ℕ, ◌++◌, ◌∙◌, ◌∷◌, ◌≡◌}
use Rattle.std.specs.Prelude.{codes}
use Rattle.httparse.specs.Ascii.{crlf_bytes}
use Rattle.tg_bytes.specs.Lists.{behind_parts}

pub two_put : (old a b x y : List ℕ) → a ≡ old ++ x → b ≡ a ++ y → b ≡ old ++ (x ++ y)
two_put old a b x y p q = q ∙ behind_parts old x y a p

pub three_put : (old a b c x y z : List ℕ) → a ≡ old ++ x → b ≡ a ++ y → c ≡ b ++ z → c ≡ old ++ (x ++ (y ++ z))
three_put old a b c x y z p q r = r ∙ behind_parts a y z b q ∙ behind_parts old x (y ++ z) a p

pub target_put : (old a b c root path params : List ℕ) → a ≡ old ++ (codes "/ipfs/" ++ (root ++ path)) → b ≡ a ++ (63 ∷ []) → c ≡ b ++ params
    → c ≡ old ++ (codes "/ipfs/" ++ (root ++ (path ++ 63 ∷ params)))
target_put old a b c root path params p q r =
    three_put old a b c (codes "/ipfs/" ++ (root ++ path)) (63 ∷ []) params p q r
    ∙ ap (λ (l : List ℕ). old ++ (codes "/ipfs/" ++ l)) (append_assoc root path (63 ∷ params))

pub request_put : (a b c d e f g target addr accept : List ℕ) → a ≡ codes "GET " → b ≡ a ++ target → c ≡ b ++ (codes " HTTP/1.1" ++ (crlf_bytes ++ codes "Host: "))
    → d ≡ c ++ addr → e ≡ d ++ (crlf_bytes ++ codes "Accept: ") → f ≡ e ++ accept → g ≡ f ++ (crlf_bytes ++ (codes "Connection: close" ++ (crlf_bytes ++ crlf_bytes)))
    → g ≡ codes "GET " ++ (target ++ (codes " HTTP/1.1" ++ (crlf_bytes
    ++ (codes "Host: " ++ (addr ++ (crlf_bytes
    ++ (codes "Accept: " ++ (accept ++ (crlf_bytes
    ++ (codes "Connection: close" ++ (crlf_bytes ++ crlf_bytes)))))))))))
request_put a b c d e f g target addr accept p q r s t u v =
    let end = crlf_bytes ++ (codes "Connection: close" ++ (crlf_bytes ++ crlf_bytes)) in
    let second = crlf_bytes ++ codes "Accept: " in
    let first = codes " HTTP/1.1" ++ (crlf_bytes ++ codes "Host: ") in
    v ∙ behind_parts e accept end f u ∙ behind_parts d second (accept ++ end) e t ∙ behind_parts c addr (second ++ (accept ++ end)) d s
    ∙ behind_parts b first (addr ++ (second ++ (accept ++ end))) c r
    ∙ behind_parts a target (first ++ (addr ++ (second ++ (accept ++ end)))) b q
    ∙ ap (λ (l : List ℕ). l ++ (target ++ (first ++ (addr ++ (second ++ (accept ++ end)))))) p
