-- Behind bytes with which no body goes on there is no body.
use Rattle.std.proofs.Common.{◌≡◌, ◌≢◌, ℕ, ◌<◌, ◌≤◌, ◌⊎◌, List, [], ◌∷◌, ◌++◌, length, take, refl, sym, ap, ◌∙◌, subst, inl, inr, arith, append_assoc}
use Rattle.std.specs.Prelude.{All}
use Rattle.std.proofs.lemmas.List.{append-nil, length-append, take_at, take-append-le}
use Rattle.std.proofs.lemmas.List.Elements.{All-take, All-push, All-nil}
use Rattle.httparse.specs.Grammar.{print_end}
use Rattle.tg_bytes.specs.Lists.{joined, joined_push, same_front}
use Rattle.tg_http.specs.OneHead.{one_section}
use Rattle.tg_http.specs.Laws.{LineLaws}
use Rattle.tg_http.specs.HeadText.{HasNoFeed, IsFullLine}
use Rattle.tg_body.specs.Bodies.{SizeLine, ChunksText, TrailerText, ChunkedText, IsOpenLine, InChunk, ChunkedFront}
use Rattle.tg_body.specs.History.{BreaksLine, BreaksDataEnd, BreaksBlock, BreaksTrailer, BreaksChunked}
use Rattle.tg_body.proofs.Divisions.{FirstLine, size_line, first_same, no_first, chunk_first, Inside, View, view, NoChunk, no_chunk_last, sync, front_no_chunk, text_no_chunk, text_first, open_not_whole}

-- what can be behind whole chunks in bytes of a body: a front, or the last line and the trailer
abbrev pub Behind : List ℕ → Type 0
Behind rest = ((part : List ℕ) × InChunk part rest) ⊎ ((trailer : List ℕ) × FirstLine 0 trailer rest × TrailerText trailer)

-- a line that is no chunk line
bad_first : LineLaws → (r more : List ℕ) → BreaksLine r → (n : ℕ) (q : List ℕ) → FirstLine n q (r ++ more) → ⊥
bad_first laws r more (inl bad) n q f =
    let same = laws.one_line r f.line more q bad.0 (size_line n f.line f.line_is) f.whole in
    bad.2 n (subst (SizeLine n) (sym same.0) f.line_is)
bad_first laws r more (inr long) n q f =
    let size = length f.line in
    let fits : size ≤ length r = omega (arith, f.line_is.fits, long.1) in
    let cut : take size r ≡ f.line = sym (take-append-le size r more fits) ∙ ap (take size) f.whole ∙ take_at f.line q size refl in
    laws.feed_in_line f.line [] (size_line n f.line f.line_is)
    (subst HasNoFeed (cut ∙ sym (append-nil f.line)) (All-take (λ b. b ≢ 10) size r long.0))

bad_open : LineLaws → (r more : List ℕ) → BreaksLine r → IsOpenLine (r ++ more) → ⊥
bad_open laws r more (inl bad) o = laws.feed_in_line r more bad.0 o.no_feed
bad_open laws r more (inr long) o = omega (arith, o.few, long.1, length-append r more)

bad_behind : LineLaws → (r more : List ℕ) → BreaksLine r → Behind (r ++ more) → ⊥
bad_behind laws r more b (inl f) = by_view (view f.0 (r ++ more) f.1)
  where
    by_view : View f.0 (r ++ more) → ⊥
    by_view (inl o) = bad_open laws r more b o.1
    by_view (inr v) = bad_first laws r more b v.0 v.1 v.2
bad_behind laws r more b (inr t) = bad_first laws r more b 0 t.0 t.1

bad_chunk : LineLaws → (r more : List ℕ) → BreaksLine r → NoChunk (r ++ more)
bad_chunk laws r more b chunk bytes y c e = bad_first laws r more b (length chunk) (chunk ++ 13 ∷ 10 ∷ y) (chunk_first chunk bytes y (r ++ more) c e)

-- bytes that are not CR LF behind a chunk
abbrev pub NoEnd : List ℕ → Type 0
NoEnd z = (0 < length z) × ((y : List ℕ) → z ≡ 13 ∷ 10 ∷ y → ⊥) × (z ≡ 13 ∷ [] → ⊥)

pub record EndBroken (r : List ℕ) : Type 0 where
  pub chunk : List ℕ
  pub end : List ℕ
  pub some : 0 < length chunk
  pub first : FirstLine (length chunk) (chunk ++ end) r
  pub no_end : NoEnd end

longer : (last : ℕ) (m : List ℕ) → 13 ∷ last ∷ m ≡ 13 ∷ [] → ⊥
longer last m e = cc

end_broken : (r more : List ℕ) → BreaksDataEnd r → EndBroken (r ++ more)
end_broken r more b = by_end b.breaks
  where
    made : (z : List ℕ) → r ≡ b.line ++ (b.chunk ++ z) → NoEnd (z ++ more) → EndBroken (r ++ more)
    made z is none = record {
      chunk = b.chunk;
      end = z ++ more;
      some = b.some;
      first = record {
        line = b.line;
        line_is = b.line_is;
        whole = ap (λ (s : List ℕ). s ++ more) is ∙ append_assoc b.line (b.chunk ++ z) more ∙ ap (λ (s : List ℕ). b.line ++ s) (append_assoc b.chunk z more);
      };
      no_end = none;
    }

    first_no : (last : ℕ) (m : List ℕ) → last ≢ 13 → NoEnd (last ∷ m)
    first_no last m other = (omega arith, λ y e. other (cc), λ e. other (cc))

    second_no : (last : ℕ) (m : List ℕ) → last ≢ 10 → NoEnd (13 ∷ last ∷ m)
    second_no last m other = (omega arith, λ y e. other (cc), λ e. longer last m e)

    by_end : ((r ≡ b.line ++ (b.chunk ++ b.last ∷ [])) × (b.last ≢ 13)) ⊎ ((r ≡ b.line ++ (b.chunk ++ 13 ∷ b.last ∷ [])) × (b.last ≢ 10)) → EndBroken (r ++ more)
    by_end (inl w) = made (b.last ∷ []) w.0 (first_no b.last more w.1)
    by_end (inr w) = made (13 ∷ b.last ∷ []) w.0 (second_no b.last more w.1)

end_chunk : LineLaws → (t : List ℕ) → EndBroken t → NoChunk t
end_chunk laws t b chunk bytes y c e =
    let same = first_same laws (length b.chunk) (length chunk) (b.chunk ++ b.end) (chunk ++ 13 ∷ 10 ∷ y) t b.first (chunk_first chunk bytes y t c e) in
    b.no_end.1 y (same_front b.chunk chunk b.end (13 ∷ 10 ∷ y) same.0 same.1).1

end_ends : (chunk end part q : List ℕ) (n : ℕ) → NoEnd end → length part ≡ n → length chunk ≡ n → chunk ++ end ≡ q
    → (q ≡ part) ⊎ (q ≡ part ++ 13 ∷ []) → ⊥
end_ends chunk end part q n none size same is (inl w) = omega (arith, none.0, ap length w, size, same, ap length is, length-append chunk end)
end_ends chunk end part q n none size same is (inr w) = none.2 (same_front chunk part end (13 ∷ []) (same ∙ sym size) (is ∙ w)).1

end_inside : (chunk end part q : List ℕ) (n : ℕ) → NoEnd end → 0 < length chunk → Inside n part q → length chunk ≡ n → chunk ++ end ≡ q → ⊥
end_inside chunk end part q n none some (inl d) same is = omega (arith, d.0, same, ap length is, length-append chunk end)
end_inside chunk end part q n none some (inr (inl d)) same is = end_ends chunk end part q n none d.1 same is d.2
end_inside chunk end part q n none some (inr (inr z)) same is = omega (arith, some, same, z.0)

end_behind : LineLaws → (t : List ℕ) → EndBroken t → Behind t → ⊥
end_behind laws t b (inl f) = by_view (view f.0 t f.1)
  where
    by_view : View f.0 t → ⊥
    by_view (inl o) = no_first laws (length b.chunk) (b.chunk ++ b.end) t o.1.no_feed b.first
    by_view (inr v) =
        let here = first_same laws (length b.chunk) v.0 (b.chunk ++ b.end) v.1 t b.first v.2 in
        end_inside b.chunk b.end f.0 v.1 v.0 b.no_end b.some v.3 here.0 here.1
end_behind laws t b (inr u) =
    let here = first_same laws (length b.chunk) 0 (b.chunk ++ b.end) u.0 t b.first u.1 in
    omega (arith, b.some, here.0)

-- a broken trailer
trailer_first : (r more : List ℕ) (b : BreaksTrailer r) → FirstLine 0 ((joined b.lines ++ b.rest) ++ more) (r ++ more)
trailer_first r more b = record {
  line = b.line;
  line_is = b.line_is;
  whole = ap (λ (s : List ℕ). s ++ more) b.whole ∙ append_assoc b.line (joined b.lines ++ b.rest) more;
}

block_open : LineLaws → (lines ls : List (List ℕ)) (rest left more : List ℕ) → BreaksBlock lines rest → All IsFullLine lines → All IsFullLine ls → HasNoFeed left
    → length (joined ls ++ left) < 16384 → (joined lines ++ rest) ++ more ≡ joined ls ++ left → ⊥
block_open laws lines ls rest left more (inl b) full whole none few same =
    open_not_whole laws ls lines left more b.0.0 whole full none
    (sym same ∙ ap (λ (s : List ℕ). (joined lines ++ s) ++ more) b.0.1)
block_open laws lines ls rest left more (inr b) full whole none few same =
    omega (arith, few, b.1, sym (ap length same), length-append (joined lines ++ rest) more)

block_whole : LineLaws → (lines : List (List ℕ)) (rest more trailer : List ℕ) → BreaksBlock lines rest → All IsFullLine lines → TrailerText trailer
    → (joined lines ++ rest) ++ more ≡ trailer → ⊥
block_whole laws lines rest more trailer (inl b) full t same =
    let shape : joined lines ++ rest ≡ joined lines ++ print_end b.0.0 = ap (λ (s : List ℕ). joined lines ++ s) b.0.1 in
    let whole : (joined t.lines ++ print_end t.empty) ++ [] ≡ (joined lines ++ print_end b.0.0) ++ more =
    append-nil (joined t.lines ++ print_end t.empty) ∙ sym t.up_to_empty ∙ sym same ∙ ap (λ (s : List ℕ). s ++ more) shape in
    let one = (one_section t.lines lines t.empty b.0.0 [] more t.lines_are full whole).0 in
    b.2 (subst TrailerText (t.up_to_empty ∙ one ∙ sym shape) t)
block_whole laws lines rest [] trailer (inr b) full t same = by_rest b.0
  where
    up : joined lines ++ rest ≡ (joined t.lines ++ print_end t.empty) ++ []
    up =
        sym (append-nil (joined lines ++ rest)) ∙ same ∙ t.up_to_empty ∙ sym (append-nil (joined t.lines ++ print_end t.empty))

    by_rest : HasNoFeed rest ⊎ IsFullLine rest → ⊥
    by_rest (inl none) = open_not_whole laws lines t.lines rest [] t.empty full t.lines_are none up
    by_rest (inr line) =
        open_not_whole laws (lines ++ rest ∷ []) t.lines [] [] t.empty (All-push IsFullLine lines rest full line) t.lines_are (All-nil (λ b. b ≢ 10))
        (append-nil (joined (lines ++ rest ∷ [])) ∙ joined_push lines rest ∙ up)
block_whole laws lines rest (x ∷ more) trailer (inr b) full t same =
    omega (arith, b.1, t.fits, ap length same, length-append (joined lines ++ rest) (x ∷ more))

trailer_behind : LineLaws → (r more : List ℕ) → BreaksTrailer r → Behind (r ++ more) → ⊥
trailer_behind laws r more b (inl f) = by_view (view f.0 (r ++ more) f.1)
  where
    text : List ℕ
    text = (joined b.lines ++ b.rest) ++ more

    by_inside : (n : ℕ) (q : List ℕ) → Inside n f.0 q → 0 ≡ n → text ≡ q → ⊥
    by_inside n q (inl d) same is = omega (arith, d.0, same)
    by_inside n q (inr (inl d)) same is = omega (arith, d.0, same)
    by_inside n q (inr (inr z)) same is =
        let block = z.2 in
        block_open laws b.lines block.lines b.rest block.rest more b.breaks b.lines_are block.lines_are block.no_feed
        (subst (λ (s : List ℕ). length s < 16384) block.whole block.few) (is ∙ block.whole)

    by_view : View f.0 (r ++ more) → ⊥
    by_view (inl o) = no_first laws 0 text (r ++ more) o.1.no_feed (trailer_first r more b)
    by_view (inr v) =
        let here = first_same laws 0 v.0 text v.1 (r ++ more) (trailer_first r more b) v.2 in
        by_inside v.0 v.1 v.3 here.0 here.1
trailer_behind laws r more b (inr u) =
    let here = first_same laws 0 0 ((joined b.lines ++ b.rest) ++ more) u.0 (r ++ more) (trailer_first r more b) u.1 in
    block_whole laws b.lines b.rest more u.0 b.breaks b.lines_are u.2 here.1

abbrev pub Breaks : List ℕ → Type 0
Breaks r = BreaksLine r ⊎ (BreaksDataEnd r ⊎ BreaksTrailer r)

break_chunk : LineLaws → (r more : List ℕ) → Breaks r → NoChunk (r ++ more)
break_chunk laws r more (inl b) = bad_chunk laws r more b
break_chunk laws r more (inr (inl b)) = end_chunk laws (r ++ more) (end_broken r more b)
break_chunk laws r more (inr (inr b)) = no_chunk_last laws ((joined b.lines ++ b.rest) ++ more) (r ++ more) (trailer_first r more b)

break_behind : LineLaws → (r more : List ℕ) → Breaks r → Behind (r ++ more) → ⊥
break_behind laws r more (inl b) = bad_behind laws r more b
break_behind laws r more (inr (inl b)) = end_behind laws (r ++ more) (end_broken r more b)
break_behind laws r more (inr (inr b)) = trailer_behind laws r more b

meets : LineLaws → (front more chunks_front rest : List ℕ) (chunks : List (List ℕ)) → BreaksChunked front → ChunksText chunks chunks_front → NoChunk rest
    → front ++ more ≡ chunks_front ++ rest → Behind rest → ⊥
meets laws front more chunks_front rest chunks b are none same behind =
    let split : b.front ++ (b.rest ++ more) ≡ chunks_front ++ rest =
    sym (append_assoc b.front b.rest more) ∙ ap (λ (s : List ℕ). s ++ more) (sym b.whole) ∙ same in
    let here = sync laws b.chunks chunks b.front chunks_front (b.rest ++ more) rest b.chunks_are are (break_chunk laws b.rest more b.breaks) none split in
    break_behind laws b.rest more b.breaks (subst Behind (sym here.1) behind)

pub break_not_front : LineLaws → (body front more : List ℕ) → BreaksChunked front → ChunkedFront body (front ++ more) → ⊥
break_not_front laws body front more b f =
    meets laws front more f.front f.rest f.chunks b f.chunks_are (front_no_chunk laws body (front ++ more) f) f.whole (inl (f.part, f.inside))

pub break_not_text : LineLaws → (body front more : List ℕ) → BreaksChunked front → ChunkedText body (front ++ more) → ⊥
break_not_text laws body front more b t =
    meets laws front more t.front (t.line ++ t.trailer) t.chunks b t.chunks_are (text_no_chunk laws body (front ++ more) t) t.whole
    (inr (t.trailer, text_first t.line t.trailer t.line_is, t.trailer_is))
