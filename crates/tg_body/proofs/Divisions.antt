-- What bytes in chunks give is determined by the bytes.
use Rattle.std.proofs.Common.{◌≡◌, ℕ, ◌+◌, ◌<◌, ◌≤◌, ◌⊎◌, List, [], ◌∷◌, ◌++◌, length, take, refl, sym, ap, ap₂, ◌∙◌, subst, inl, inr, arith, append_assoc}
use Rattle.std.specs.Prelude.{All}
use Rattle.std.proofs.lemmas.List.{append-nil, length-append, take_all, take_at}
use Rattle.std.proofs.lemmas.List.Elements.{All-head, All-tail}
use Rattle.httparse.specs.Grammar.{LineEnd, print_end, print_chunk_line, chunk_size}
use Rattle.httparse.proofs.ChunkLemmas.{chunk_line_unique}
use Rattle.tg_bytes.specs.Lists.{behind_parts, joined, same_front}
use Rattle.tg_http.specs.Laws.{LineLaws}
use Rattle.tg_http.specs.HeadText.{HasNoFeed, IsLine, IsFullLine}
use Rattle.tg_body.specs.Bodies.{SizeLine, ChunkText, ChunksText, TrailerText, ChunkedText, IsOpenLine, IsOpenBlock, InChunk, ChunkedFront}
use Rattle.tg_body.proofs.ChunkLines.{chunk_is_line}

-- bytes that begin with a chunk line of this size
pub record FirstLine (size : ℕ) (rest bytes : List ℕ) : Type 0 where
  pub line : List ℕ
  pub line_is : SizeLine size line
  pub whole : bytes ≡ line ++ rest

pub size_line : (size : ℕ) (line : List ℕ) → SizeLine size line → IsLine line
size_line size line s = subst IsLine (sym (s.reads.1 ∙ append-nil (print_chunk_line s.tree))) (chunk_is_line s.tree s.reads.0)

pub first_same : LineLaws → (n m : ℕ) (q p bytes : List ℕ) → FirstLine n q bytes → FirstLine m p bytes → (n ≡ m) × (q ≡ p)
first_same laws n m q p bytes a b =
    let same = laws.one_line a.line b.line q p (size_line n a.line a.line_is) (size_line m b.line b.line_is) (sym a.whole ∙ b.whole) in
    let left : SizeLine n b.line = subst (SizeLine n) same.0 a.line_is in
    let tree = chunk_line_unique b.line left.tree b.line_is.tree [] [] left.reads b.line_is.reads in
    (left.size_is ∙ ap chunk_size tree.0 ∙ sym b.line_is.size_is, same.1)

pub no_first : LineLaws → (n : ℕ) (q bytes : List ℕ) → HasNoFeed bytes → FirstLine n q bytes → ⊥
no_first laws n q bytes none a = laws.feed_in_line a.line q (size_line n a.line a.line_is) (subst HasNoFeed a.whole none)

pub chunk_first : (chunk bytes y t : List ℕ) → ChunkText chunk bytes → t ≡ bytes ++ y → FirstLine (length chunk) (chunk ++ 13 ∷ 10 ∷ y) t
chunk_first chunk bytes y t c e = record {
  line = c.line;
  line_is = c.line_is;
  whole = e ∙ ap (λ (s : List ℕ). s ++ y) c.whole ∙ append_assoc c.line (chunk ++ 13 ∷ 10 ∷ []) y
      ∙ ap (λ (s : List ℕ). c.line ++ s) (append_assoc chunk (13 ∷ 10 ∷ []) y);
}

-- what came behind the chunk line of this size, and the bytes of the chunk that are in it
abbrev pub Inside : ℕ → List ℕ → List ℕ → Type 0
Inside n part q =
    ((length q < n) × (part ≡ q))
    ⊎ (((0 < n) × (length part ≡ n) × ((q ≡ part) ⊎ (q ≡ part ++ 13 ∷ []))) ⊎ ((n ≡ 0) × (part ≡ []) × IsOpenBlock q))

abbrev pub View : List ℕ → List ℕ → Type 0
View part rest = ((part ≡ []) × IsOpenLine rest) ⊎ ((n : ℕ) × (q : List ℕ) × FirstLine n q rest × Inside n part q)

pub view : (part rest : List ℕ) → InChunk part rest → View part rest
view part rest (inl o) = inl o
view part rest (inr (inl d)) = inr (d.size, part, record { line = d.line; line_is = d.line_is; whole = d.whole }, inl (d.inside, refl))
view part rest (inr (inr (inl e))) = by_end e.whole
  where
    by_end : (rest ≡ e.line ++ part) ⊎ (rest ≡ e.line ++ (part ++ 13 ∷ [])) → View part rest
    by_end (inl w) = inr (length part, part, record { line = e.line; line_is = e.line_is; whole = w }, inr (inl (e.some, refl, inl refl)))
    by_end (inr w) = inr (length part, part ++ 13 ∷ [], record { line = e.line; line_is = e.line_is; whole = w }, inr (inl (e.some, refl, inr refl)))
view part rest (inr (inr (inr t))) =
    inr (0, t.1.block, record { line = t.1.line; line_is = t.1.line_is; whole = t.1.whole }, inr (inr (refl, t.0, t.1.block_is)))

-- no whole chunk is at the front
abbrev pub NoChunk : List ℕ → Type 0
NoChunk t = (chunk bytes y : List ℕ) → ChunkText chunk bytes → t ≡ bytes ++ y → ⊥

short : (n : ℕ) (part q : List ℕ) → Inside n part q → 0 < n → length q ≤ n + 1
short n part q (inl d) some = omega (arith, d.0)
short n part q (inr (inl d)) some = by_end d.2
  where
    by_end : (q ≡ part) ⊎ (q ≡ part ++ 13 ∷ []) → length q ≤ n + 1
    by_end (inl w) = omega (arith, ap length w, d.1)
    by_end (inr w) = omega (arith, ap length w, d.1, length-append part (13 ∷ []))
short n part q (inr (inr z)) some = absurd (omega (arith, z.0, some))

no_chunk_view : LineLaws → (part rest : List ℕ) → View part rest → NoChunk rest
no_chunk_view laws part rest (inl o) chunk bytes y c e =
    no_first laws (length chunk) (chunk ++ 13 ∷ 10 ∷ y) rest o.1.no_feed (chunk_first chunk bytes y rest c e)
no_chunk_view laws part rest (inr v) chunk bytes y c e =
    let same = first_same laws v.0 (length chunk) v.1 (chunk ++ 13 ∷ 10 ∷ y) rest v.2 (chunk_first chunk bytes y rest c e) in
    let few = short v.0 part v.1 v.3 (omega (arith, same.0, c.some)) in
    omega (arith, few, same.0, ap length same.1, length-append chunk (13 ∷ 10 ∷ y))

pub no_chunk_last : LineLaws → (q t : List ℕ) → FirstLine 0 q t → NoChunk t
no_chunk_last laws q t f chunk bytes y c e =
    let same = first_same laws 0 (length chunk) q (chunk ++ 13 ∷ 10 ∷ y) t f (chunk_first chunk bytes y t c e) in
    omega (arith, same.0, c.some)

one_chunk : LineLaws → (c d a b x y : List ℕ) → ChunkText c a → ChunkText d b → a ++ x ≡ b ++ y → (c ≡ d) × (x ≡ y)
one_chunk laws c d a b x y k j e =
    let same = first_same laws (length c) (length d) (c ++ 13 ∷ 10 ∷ x) (d ++ 13 ∷ 10 ∷ y) (a ++ x) (chunk_first c a x (a ++ x) k refl) (chunk_first d b y (a ++ x) j e) in
    let parts = same_front c d (13 ∷ 10 ∷ x) (13 ∷ 10 ∷ y) same.0 same.1 in
    (parts.0, tails x y parts.1)
  where
    tails : (x y : List ℕ) → 13 ∷ 10 ∷ x ≡ 13 ∷ 10 ∷ y → x ≡ y
    tails x y e = cc

-- chunks at the front of bytes, up to where no whole chunk is, are determined
pub sync : LineLaws → (cs ds : List (List ℕ)) (f g t s : List ℕ) → ChunksText cs f → ChunksText ds g → NoChunk t → NoChunk s → f ++ t ≡ g ++ s → (cs ≡ ds) × (t ≡ s)
sync laws [] [] f g t s k j nt ns e = (refl, sym (ap (λ (x : List ℕ). x ++ t) k) ∙ e ∙ ap (λ (x : List ℕ). x ++ s) j)
sync laws [] (d ∷ ds) f g t s k j nt ns e =
    absurd (nt d j.0 (j.1 ++ s) j.3 (sym (ap (λ (x : List ℕ). x ++ t) k) ∙ e ∙ ap (λ (x : List ℕ). x ++ s) j.2 ∙ append_assoc j.0 j.1 s))
sync laws (c ∷ cs) [] f g t s k j nt ns e =
    absurd (ns c k.0 (k.1 ++ t) k.3 (sym (ap (λ (x : List ℕ). x ++ s) j) ∙ sym e ∙ ap (λ (x : List ℕ). x ++ t) k.2 ∙ append_assoc k.0 k.1 t))
sync laws (c ∷ cs) (d ∷ ds) f g t s k j nt ns e =
    let left : f ++ t ≡ k.0 ++ (k.1 ++ t) = ap (λ (x : List ℕ). x ++ t) k.2 ∙ append_assoc k.0 k.1 t in
    let right : g ++ s ≡ j.0 ++ (j.1 ++ s) = ap (λ (x : List ℕ). x ++ s) j.2 ∙ append_assoc j.0 j.1 s in
    let same = one_chunk laws c d k.0 j.0 (k.1 ++ t) (j.1 ++ s) k.3 j.3 (sym left ∙ e ∙ right) in
    let more = sync laws cs ds k.1 j.1 t s k.4 j.4 nt ns same.1 in
    (ap₂ (λ (a : List ℕ) (b : List (List ℕ)). a ∷ b) same.0 more.0, more.1)

-- where bytes of a chunked body are behind whole chunks
pub record Place (body bytes : List ℕ) : Type 0 where
  pub chunks : List (List ℕ)
  pub front : List ℕ
  pub part : List ℕ
  pub rest : List ℕ
  pub chunks_are : ChunksText chunks front
  pub whole : bytes ≡ front ++ rest
  pub body_is : body ≡ joined chunks ++ part
  pub no_chunk : NoChunk rest
  pub part_is : ((part ≡ []) × HasNoFeed rest) ⊎ ((n : ℕ) × (q : List ℕ) × FirstLine n q rest × (part ≡ take n q))

inside_part : (n : ℕ) (part q : List ℕ) → Inside n part q → part ≡ take n q
inside_part n part q (inl d) = d.1 ∙ sym (take_all n q (omega (arith, d.0)))
inside_part n part q (inr (inl d)) = by_end d.2
  where
    by_end : (q ≡ part) ⊎ (q ≡ part ++ 13 ∷ []) → part ≡ take n q
    by_end (inl w) = sym (ap (take n) w ∙ take_all n part (omega (arith, d.1)))
    by_end (inr w) = sym (ap (take n) w ∙ take_at part (13 ∷ []) n d.1)
inside_part n part q (inr (inr z)) = z.1 ∙ ap (λ m. take m q) (sym z.0)

pub front_place : LineLaws → (body bytes : List ℕ) → ChunkedFront body bytes → Place body bytes
front_place laws body bytes f = record {
  chunks = f.chunks;
  front = f.front;
  part = f.part;
  rest = f.rest;
  chunks_are = f.chunks_are;
  whole = f.whole;
  body_is = f.body_is;
  no_chunk = no_chunk_view laws f.part f.rest (view f.part f.rest f.inside);
  part_is = by_view (view f.part f.rest f.inside);
}
  where
    by_view : View f.part f.rest → ((f.part ≡ []) × HasNoFeed f.rest) ⊎ ((n : ℕ) × (q : List ℕ) × FirstLine n q f.rest × (f.part ≡ take n q))
    by_view (inl o) = inl (o.0, o.1.no_feed)
    by_view (inr v) = inr (v.0, v.1, v.2, inside_part v.0 f.part v.1 v.3)

pub text_first : (line trailer : List ℕ) → SizeLine 0 line → FirstLine 0 trailer (line ++ trailer)
text_first line trailer s = record { line = line; line_is = s; whole = refl }

pub text_place : LineLaws → (body bytes : List ℕ) → ChunkedText body bytes → Place body bytes
text_place laws body bytes t = record {
  chunks = t.chunks;
  front = t.front;
  part = [];
  rest = t.line ++ t.trailer;
  chunks_are = t.chunks_are;
  whole = t.whole;
  body_is = t.body_is ∙ sym (append-nil (joined t.chunks));
  no_chunk = no_chunk_last laws t.trailer (t.line ++ t.trailer) (text_first t.line t.trailer t.line_is);
  part_is = inr (0, t.trailer, text_first t.line t.trailer t.line_is, refl);
}

pub front_no_chunk : LineLaws → (body bytes : List ℕ) (f : ChunkedFront body bytes) → NoChunk f.rest
front_no_chunk laws body bytes f = no_chunk_view laws f.part f.rest (view f.part f.rest f.inside)

-- no whole chunk is at the line of size 0
pub no_chunk_at_last : LineLaws → (line q : List ℕ) → SizeLine 0 line → NoChunk (line ++ q)
no_chunk_at_last laws line q s = no_chunk_last laws q (line ++ q) (text_first line q s)

pub text_no_chunk : LineLaws → (body bytes : List ℕ) (t : ChunkedText body bytes) → NoChunk (t.line ++ t.trailer)
text_no_chunk laws body bytes t = no_chunk_at_last laws t.line t.trailer t.line_is

pub one_body : LineLaws → (body other bytes : List ℕ) → Place body bytes → Place other bytes → body ≡ other
one_body laws body other bytes a b =
    let same = sync laws a.chunks b.chunks a.front b.front a.rest b.rest a.chunks_are b.chunks_are a.no_chunk b.no_chunk (sym a.whole ∙ b.whole) in
    a.body_is ∙ ap₂ (λ (c : List (List ℕ)) (p : List ℕ). joined c ++ p) same.0 (parts same.1 a.part_is b.part_is) ∙ sym b.body_is
  where
    parts : a.rest ≡ b.rest → ((a.part ≡ []) × HasNoFeed a.rest) ⊎ ((n : ℕ) × (q : List ℕ) × FirstLine n q a.rest × (a.part ≡ take n q))
        → ((b.part ≡ []) × HasNoFeed b.rest) ⊎ ((n : ℕ) × (q : List ℕ) × FirstLine n q b.rest × (b.part ≡ take n q)) → a.part ≡ b.part
    parts e (inl x) (inl y) = x.0 ∙ sym y.0
    parts e (inl x) (inr y) = absurd (no_first laws y.0 y.1 b.rest (subst HasNoFeed e x.1) y.2)
    parts e (inr x) (inl y) = absurd (no_first laws x.0 x.1 a.rest (subst HasNoFeed (sym e) y.1) x.2)
    parts e (inr x) (inr y) =
        let f : FirstLine x.0 x.1 b.rest = subst (FirstLine x.0 x.1) e x.2 in
        let same = first_same laws x.0 y.0 x.1 y.1 b.rest f y.2 in
        x.3 ∙ ap₂ (λ (n : ℕ) (q : List ℕ). take n q) same.0 same.1 ∙ sym y.3

pub regroup : (m j p x : List ℕ) → ((m ++ j) ++ p) ++ x ≡ m ++ ((j ++ p) ++ x)
regroup m j p x = ap (λ (s : List ℕ). s ++ x) (append_assoc m j p) ∙ append_assoc m (j ++ p) x

-- lines that aren't empty, and bytes of a line, hold no empty line
pub open_not_whole : LineLaws → (ls ms : List (List ℕ)) (rest x : List ℕ) (e : LineEnd) → All IsFullLine ls → All IsFullLine ms → HasNoFeed rest
    → joined ls ++ rest ≡ (joined ms ++ print_end e) ++ x → ⊥
open_not_whole laws [] [] rest x e a b none same = laws.feed_in_line (print_end e) x (laws.end_line e) (subst HasNoFeed same none)
open_not_whole laws [] (m ∷ ms) rest x e a b none same =
    laws.feed_in_line m ((joined ms ++ print_end e) ++ x) (All-head IsFullLine m ms b).line_is
    (subst HasNoFeed (same ∙ regroup m (joined ms) (print_end e) x) none)
open_not_whole laws (l ∷ ls) [] rest x e a b none same =
    let full = All-head IsFullLine l ls a in
    let here = laws.one_line l (print_end e) (joined ls ++ rest) x full.line_is (laws.end_line e) (sym (append_assoc l (joined ls) rest) ∙ same) in
    full.not_empty (e, here.0)
open_not_whole laws (l ∷ ls) (m ∷ ms) rest x e a b none same =
    let here = laws.one_line l m (joined ls ++ rest) ((joined ms ++ print_end e) ++ x) (All-head IsFullLine l ls a).line_is (All-head IsFullLine m ms b).line_is
    (sym (append_assoc l (joined ls) rest) ∙ same ∙ regroup m (joined ms) (print_end e) x) in
    open_not_whole laws ls ms rest x e (All-tail IsFullLine l ls a) (All-tail IsFullLine m ms b) none here.1

-- what follows a whole body in chunks follows its trailer
pub text_more : (body bytes more : List ℕ) (t : ChunkedText body bytes) → bytes ++ more ≡ t.front ++ (t.line ++ (t.trailer ++ more))
text_more body bytes more t =
    behind_parts t.front (t.line ++ t.trailer) more bytes t.whole ∙ ap (λ (s : List ℕ). t.front ++ s) (append_assoc t.line t.trailer more)

-- no whole body is at the front of bytes of a body that isn't whole
pub cut_not_whole : LineLaws → (body other bytes whole more : List ℕ) → ChunkedFront body bytes → ChunkedText other whole → bytes ≡ whole ++ more → ⊥
cut_not_whole laws body other bytes whole more f t is =
    let same = sync laws f.chunks t.chunks f.front t.front f.rest (t.line ++ (t.trailer ++ more)) f.chunks_are t.chunks_are (front_no_chunk laws body bytes f)
    (no_chunk_at_last laws t.line (t.trailer ++ more) t.line_is) (sym f.whole ∙ is ∙ text_more other whole more t) in
    by_view (view f.part f.rest f.inside) (subst (FirstLine 0 (t.trailer ++ more)) (sym same.1) (text_first t.line (t.trailer ++ more) t.line_is))
  where
    trailer : TrailerText t.trailer
    trailer = t.trailer_is

    by_inside : (n : ℕ) (q : List ℕ) → Inside n f.part q → n ≡ 0 → q ≡ t.trailer ++ more → ⊥
    by_inside n q (inl d) none here = omega (arith, d.0, none)
    by_inside n q (inr (inl d)) none here = omega (arith, d.0, none)
    by_inside n q (inr (inr z)) none here =
        let block = z.2 in
        open_not_whole laws block.lines trailer.lines block.rest more trailer.empty block.lines_are trailer.lines_are block.no_feed
        (sym block.whole ∙ here ∙ ap (λ (s : List ℕ). s ++ more) trailer.up_to_empty)

    by_view : View f.part f.rest → FirstLine 0 (t.trailer ++ more) f.rest → ⊥
    by_view (inl o) last = no_first laws 0 (t.trailer ++ more) f.rest o.1.no_feed last
    by_view (inr v) last =
        let here = first_same laws v.0 0 v.1 (t.trailer ++ more) f.rest v.2 last in
        by_inside v.0 v.1 v.3 here.0 here.1

-- bytes of a body that isn't whole are no whole body
pub front_not_text : LineLaws → (body other bytes : List ℕ) → ChunkedFront body bytes → ChunkedText other bytes → ⊥
front_not_text laws body other bytes f t = cut_not_whole laws body other bytes bytes [] f t (sym (append-nil bytes))
