-- Lists of which all but the last are one number.
use Rattle.std.proofs.Common.{◌≡◌, ◌+◌, ◌<◌, ◌≤◌, ℕ, zero, suc, List, Some, [], ◌∷◌, ◌++◌, length, refl, sym, ◌∙◌, subst, arith}
use Rattle.std.specs.Prelude.{All, map, slice_get}
use Rattle.std.proofs.lemmas.List.Elements.{All-cons, All-head, All-nil, All-tail}
use Rattle.tg_filedag.specs.Chunks.{AllFull, AreChunks, FullAreChunks, LastIsChunk}
use Rattle.std.proofs.lemmas.List.{append-nil, length-append}
use Rattle.std.proofs.lemmas.Option.{same_Some}
use Rattle.tg_bytes.specs.Lists.{joined}
use Rattle.tg_model.specs.FullLaws.{full_none, full_one}
use Rattle.tg_model.specs.ImportLayout.{AreFull, HasBytes}

cons_all : (number x : ℕ) (zs : List ℕ) (i n : ℕ) → x ≡ number → AreFull number zs → i + 1 < length (x ∷ zs) → slice_get (x ∷ zs) i ≡ Some n → n ≡ number
cons_all number x zs zero n is full lt e = sym (same_Some x n e) ∙ is
cons_all number x zs (suc i) n is full lt e = full.full i n (omega arith) e

cons_last : (number x : ℕ) (zs : List ℕ) (i n : ℕ) → x ≡ number → AreFull number zs → i + 1 ≡ length (x ∷ zs) → slice_get (x ∷ zs) i ≡ Some n → n ≤ number
cons_last number x zs zero n is full eq e = let same = same_Some x n e in omega arith
cons_last number x zs (suc i) n is full eq e = full.last i n (omega arith) e

pub full_cons : (number x : ℕ) (zs : List ℕ) → x ≡ number → AreFull number zs → AreFull number (x ∷ zs)
full_cons number x zs is full = record {
  full = λ i n lt e. cons_all number x zs i n is full lt e;
  last = λ i n eq e. cons_last number x zs i n is full eq e;
}

-- full ones before full ones
pub full_append : (number : ℕ) (xs ys : List ℕ) → All (λ n. n ≡ number) xs → AreFull number ys → AreFull number (xs ++ ys)
full_append number [] ys all full = full
full_append number (x ∷ xs) ys all full =
    let P = λ (n : ℕ). n ≡ number in
    full_cons number x (xs ++ ys) (All-head P x xs all) (full_append number xs ys (All-tail P x xs all) full)

pub full_all : (number : ℕ) (xs : List ℕ) → All (λ n. n ≡ number) xs → AreFull number xs
full_all number [] all = full_none number
full_all number (x ∷ xs) all =
    let P = λ (n : ℕ). n ≡ number in
    full_cons number x xs (All-head P x xs all) (full_all number xs (All-tail P x xs all))

pub all_some : (number : ℕ) (xs : List ℕ) → 0 < number → All (λ n. n ≡ number) xs → All (λ n. 0 < n) xs
all_some number [] some all = All-nil (λ (n : ℕ). 0 < n)
all_some number (x ∷ xs) some all =
    let P = λ (n : ℕ). n ≡ number in
    let is = All-head P x xs all in
    All-cons (λ (n : ℕ). 0 < n) x xs (omega arith) (all_some number xs some (All-tail P x xs all))

-- chunks of which there are several are longer than one
several_longer : (size : ℕ) (a b : List ℕ) (chunks : List (List ℕ)) → AreFull size (map length (a ∷ b ∷ chunks)) → HasBytes (a ∷ b ∷ chunks)
    → size < length (joined (a ∷ b ∷ chunks))
several_longer size a b chunks full some =
    let P = λ (bytes : List ℕ). 0 < length bytes in
    let first : length a ≡ size = full.full 0 (length a) (omega arith) refl in
    let second = All-head P b chunks (All-tail P a (b ∷ chunks) some) in
    let whole = length-append a (b ++ joined chunks) in
    let rest = length-append b (joined chunks) in
    omega arith

pub chunks_longer : (size : ℕ) (chunks : List (List ℕ)) → AreChunks size chunks → 2 ≤ length chunks → size < length (joined chunks)
chunks_longer size [] are two = absurd (omega arith)
chunks_longer size (a ∷ []) are two = absurd (omega arith)
chunks_longer size (a ∷ b ∷ chunks) are two = several_longer size a b chunks are.full are.not_empty

-- full chunks before these
full_before : (size : ℕ) (chunks more : List (List ℕ)) → AllFull size chunks → AreFull size (map length more) → AreFull size (map length (chunks ++ more))
full_before size [] more all full = full
full_before size (x ∷ xs) more all full =
    let P = λ (c : List ℕ). length c ≡ size in
    full_cons size (length x) (map length (xs ++ more)) (All-head P x xs all) (full_before size xs more (All-tail P x xs all) full)

-- none but the only one is empty
some_before : (size : ℕ) (chunks more : List (List ℕ)) → 1 ≤ size → AllFull size chunks → All (λ c. 0 < length c) more → All (λ c. 0 < length c) (chunks ++ more)
some_before size [] more one all some = some
some_before size (x ∷ xs) more one all some =
    let P = λ (c : List ℕ). length c ≡ size in
    let first : length x ≡ size = All-head P x xs all in
    All-cons (λ (c : List ℕ). 0 < length c) x (xs ++ more) (omega arith) (some_before size xs more one (All-tail P x xs all) some)

has_bytes : (chunks : List (List ℕ)) → All (λ c. 0 < length c) chunks → HasBytes chunks
has_bytes [] all = tt
has_bytes (x ∷ []) all = tt
has_bytes (x ∷ y ∷ more) all = all

-- the chunks of a file: all full, or a last one behind them
pub full_are_chunks : FullAreChunks
full_are_chunks size chunks one all = subst (AreChunks size) (append-nil chunks) (record {
  full = full_before size chunks [] all (full_none size);
  not_empty = has_bytes (chunks ++ []) (some_before size chunks [] one all (All-nil (λ (c : List ℕ). 0 < length c)));
})

pub last_is_chunk : LastIsChunk
last_is_chunk size chunks last one all most some = record {
  full = full_before size chunks (last ∷ []) all (full_one size (length last) most);
  not_empty = has_bytes (chunks ++ last ∷ [])
      (some_before size chunks (last ∷ []) one all (All-cons (λ (c : List ℕ). 0 < length c) last [] some (All-nil (λ (c : List ℕ). 0 < length c))));
}
