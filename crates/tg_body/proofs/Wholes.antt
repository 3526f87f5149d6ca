-- A whole body at the front of bytes is determined by the bytes.
use Rattle.std.proofs.Common.{◌≡◌, ◌≢◌, List, [], ◌∷◌, ◌++◌, refl, sym, ap, ◌∙◌, ℕ}
use Rattle.std.specs.Prelude.{All}
use Rattle.std.proofs.lemmas.List.{append_cancel_right}
use Rattle.std.proofs.lemmas.List.Elements.{All-head, All-tail}
use Rattle.httparse.specs.Grammar.{LineEnd, print_end}
use Rattle.tg_bytes.specs.Lists.{joined, same_front}
use Rattle.tg_http.specs.HeadText.{IsFullLine}
use Rattle.tg_http.specs.Laws.{LineLaws}
use Rattle.tg_http.specs.declared.framing.Framing.{Framing}
use Rattle.tg_http.specs.declared.framing.Framing.TheVariants as framings
use Rattle.tg_body.specs.Bodies.{BodyText, ChunkedText, TrailerText}
use Rattle.tg_body.proofs.Divisions.{first_same, no_chunk_at_last, regroup, sync, text_first, text_more}

-- behind lines that aren't empty, the first empty line is determined
first_empty : LineLaws → (ls ms : List (List ℕ)) (e f : LineEnd) (x y : List ℕ) → All IsFullLine ls → All IsFullLine ms
    → (joined ls ++ print_end e) ++ x ≡ (joined ms ++ print_end f) ++ y → x ≡ y
first_empty laws [] [] e f x y a b same = (laws.one_line (print_end e) (print_end f) x y (laws.end_line e) (laws.end_line f) same).1
first_empty laws [] (m ∷ ms) e f x y a b same =
    let full = All-head IsFullLine m ms b in
    let here = laws.one_line (print_end e) m x ((joined ms ++ print_end f) ++ y) (laws.end_line e) full.line_is (same ∙ regroup m (joined ms) (print_end f) y) in
    absurd (full.not_empty (e, sym here.0))
first_empty laws (l ∷ ls) [] e f x y a b same =
    let full = All-head IsFullLine l ls a in
    let here = laws.one_line l (print_end f) ((joined ls ++ print_end e) ++ x) y full.line_is (laws.end_line f) (sym (regroup l (joined ls) (print_end e) x) ∙ same) in
    absurd (full.not_empty (f, here.0))
first_empty laws (l ∷ ls) (m ∷ ms) e f x y a b same =
    let here = laws.one_line l m ((joined ls ++ print_end e) ++ x) ((joined ms ++ print_end f) ++ y) (All-head IsFullLine l ls a).line_is (All-head IsFullLine m ms b).line_is
    (sym (regroup l (joined ls) (print_end e) x) ∙ same ∙ regroup m (joined ms) (print_end f) y) in
    first_empty laws ls ms e f x y (All-tail IsFullLine l ls a) (All-tail IsFullLine m ms b) here.1

-- what follows a trailer is determined
one_trailer : LineLaws → (a b x y : List ℕ) → TrailerText a → TrailerText b → a ++ x ≡ b ++ y → x ≡ y
one_trailer laws a b x y t s same =
    first_empty laws t.lines s.lines t.empty s.empty x y t.lines_are s.lines_are
    (sym (ap (λ (l : List ℕ). l ++ x) t.up_to_empty) ∙ same ∙ ap (λ (l : List ℕ). l ++ y) s.up_to_empty)

-- of two whole bodies in chunks at the front of the same bytes
one_chunked : LineLaws → (body other bytes text more rest : List ℕ) → ChunkedText body bytes → ChunkedText other text → bytes ++ more ≡ text ++ rest
    → (body ≡ other) × (bytes ≡ text)
one_chunked laws body other bytes text more rest t s same =
    let left : List ℕ = t.trailer ++ more in
    let right : List ℕ = s.trailer ++ rest in
    let chunks = sync laws t.chunks s.chunks t.front s.front (t.line ++ left) (s.line ++ right) t.chunks_are s.chunks_are
    (no_chunk_at_last laws t.line left t.line_is) (no_chunk_at_last laws s.line right s.line_is) (sym (text_more body bytes more t) ∙ same ∙ text_more other text rest s) in
    let last = first_same laws 0 0 left right (t.line ++ left) (text_first t.line left t.line_is) (record { line = s.line; line_is = s.line_is; whole = chunks.1 }) in
    let behind : more ≡ rest = one_trailer laws t.trailer s.trailer more rest t.trailer_is s.trailer_is last.1 in (
      t.body_is ∙ ap joined chunks.0 ∙ sym s.body_is,
      append_cancel_right bytes text rest (ap (λ (l : List ℕ). bytes ++ l) (sym behind) ∙ same),
    )

-- of two whole bodies of a length
one_length : (number : ℕ) (body other bytes text more rest : List ℕ) → BodyText (framings.Length number) body bytes → BodyText (framings.Length number) other text
    → bytes ++ more ≡ text ++ rest → (body ≡ other) × (bytes ≡ text)
one_length number body other bytes text more rest t s same =
    let front = (same_front bytes text more rest (t.1 ∙ sym s.1) same).0 in
    (t.0 ∙ front ∙ sym s.0, front)

-- of two whole bodies in a framing that says how a body ends
pub one_whole : LineLaws → (framing : Framing) (body other bytes text more rest : List ℕ) → framing ≢ framings.UntilClose → BodyText framing body bytes
    → BodyText framing other text → bytes ++ more ≡ text ++ rest → (body ≡ other) × (bytes ≡ text)
one_whole laws (framings.Length number) body other bytes text more rest ends t s same = one_length number body other bytes text more rest t s same
one_whole laws framings.Chunked body other bytes text more rest ends t s same = one_chunked laws body other bytes text more rest t s same
one_whole laws framings.UntilClose body other bytes text more rest ends t s same = absurd (ends refl)
one_whole laws framings.Broken body other bytes text more rest ends t s same = absurd t
