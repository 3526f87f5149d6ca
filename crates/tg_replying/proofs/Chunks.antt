-- The bytes of a chunk that is given piece by piece (RFC 9112, section 7.1).
use Rattle.std.proofs.Common.{List, [], ap, length, length-append, sym, ℕ, ◌++◌, ◌+◌, ◌∙◌, ◌≡◌, ◌∷◌}
use Rattle.tg_http.specs.Chunks.{chunk_line}
use Rattle.tg_reply.specs.CarBytes.{chunk_bytes}

abbrev pub cr_lf : List ℕ
cr_lf = 13 ∷ 10 ∷ []

-- the line of its size, its bytes in two pieces, CR LF
pub chunk_is : (line front back : List ℕ) → line ≡ chunk_line (length front + length back)
    → line ++ ((front ++ back) ++ cr_lf) ≡ chunk_bytes (front ++ back)
chunk_is line front back e =
    ap (λ (line : List ℕ). line ++ ((front ++ back) ++ cr_lf)) (e ∙ ap chunk_line (sym (length-append front back)))
