-- The numbers of a shard's slots ascend, so that no two slots have one number.
use Rattle.std.proofs.Common.{◌≡◌, ℕ, zero, suc, ◌+◌, ◌*◌, ◌≤◌, Bool, List, [], ◌∷◌, ◌++◌, map, length, inl, inr, refl, sym, ap, ◌∙◌, subst, add-one, arith}
use Rattle.std.specs.Prelude.{filter}
use Rattle.std.proofs.lemmas.Bool.{cond_both}
use Rattle.tg_cid.specs.Cid.{CidParts}
use Rattle.tg_cid.specs.declared.cid.Codec.{Codec}
use Rattle.tg_cid.specs.declared.cid.Codec.TheVariants as codecs
use Rattle.tg_dagpb.specs.declared.Link.{Link}
use Rattle.tg_model.specs.Reading.{AreSlots, Reads, ReadsUnder, below, used_slots, inline_of}
use Rattle.tg_model.specs.declared.kinds.Kind.TheVariants.{Shard}
use Rattle.tg_model.specs.declared.kinds.Slot.{Slot}

-- the numbers ascend, from `low` on and below `high`
abbrev pub Ascends : ℕ → ℕ → List ℕ → Type 0
Ascends low high [] = low ≤ high
Ascends low high (n ∷ ns) = (low ≤ n) × Ascends (n + 1) high ns

-- they also ascend from a lower number on
wider : (ns : List ℕ) (low more high : ℕ) → low ≤ more → Ascends more high ns → Ascends low high ns
wider [] low more high le h = omega arith
wider (n ∷ ns) low more high le h = (omega arith, h.1)

-- one more number at the end
ascends_push : (ns : List ℕ) (low n : ℕ) → Ascends low n ns → Ascends low (n + 1) (ns ++ n ∷ [])
ascends_push [] low n h = (h, omega arith)
ascends_push (m ∷ ns) low n h = (h.0, ascends_push ns (m + 1) n h.1)

-- the numbers below n ascend
below_ascends : (n : ℕ) → Ascends 0 n (below n)
below_ascends zero = omega arith
below_ascends (suc n) = subst (λ (high : ℕ). Ascends 0 high (below (suc n))) (add-one n) (ascends_push (below n) 0 n (below_ascends n))

-- a filter keeps the order
filter_ascends : (p : ℕ → Bool) (ns : List ℕ) (low high : ℕ) → Ascends low high ns → Ascends low high (filter p ns)
filter_ascends p [] low high h = h
filter_ascends p (n ∷ ns) low high h =
    let rest : Ascends (n + 1) high (filter p ns) = filter_ascends p ns (n + 1) high h.1 in
    cond_both (p n) (n ∷ filter p ns) (filter p ns) (λ xs. Ascends low high xs) (λ _. (h.0, rest)) (λ _. wider (filter p ns) low (n + 1) high (omega (arith, h.0)) rest)

-- the numbers of slots
abbrev pub numbers_of : List Slot → List ℕ
numbers_of slots = map (λ slot. slot.slot) slots

-- the slots have just the numbers that they are read with
numbers_are : (numbers : List ℕ) (links : List Link) (cids : List CidParts) (slots : List Slot) → AreSlots numbers links cids slots → numbers ≡ numbers_of slots
numbers_are [] [] [] [] h = refl
numbers_are (number ∷ numbers) (link ∷ links) (cid ∷ cids) (slot ∷ slots) h =
    let rest : numbers ≡ numbers_of slots = numbers_are numbers links cids slots h.1 in
    let here : slot.slot ≡ number = h.0.number_is in
    cc
numbers_are _ _ _ _ h = absurd h

-- the slots' numbers ascend
pub record AreAscending (slots : List Slot) : Type 0 where
  pub high : ℕ
  pub ascends : Ascends 0 high (numbers_of slots)

-- a raw block is no shard, and of the kinds of a DAG-PB node only a shard has slots
traverse_codec : (codec : Codec) (block : List ℕ) (slots : List Slot) → ReadsUnder codec block (Shard slots) → AreAscending slots
traverse_codec codecs.Raw block slots h = cc
traverse_codec codecs.DagPb block slots h = elim h.reads [
  | inl file ↦ let e = file.kind_is in cc
  | inr (inl basic) ↦ let e = basic.kind_is in cc
  | inr (inr (inl shard)) ↦
      let bits : ℕ = 8 * length (inline_of h.unix) in
      let used : List ℕ = used_slots (inline_of h.unix) in
      let same : slots ≡ shard.slots = (let e = shard.kind_is in cc) in
      let numbers : used ≡ numbers_of slots = numbers_are used h.links h.cids shard.slots shard.slots_are ∙ ap numbers_of (sym same) in
      record { high = bits; ascends = subst (λ (ns : List ℕ). Ascends 0 bits ns) numbers (filter_ascends _ (below bits) 0 bits (below_ascends bits)) }
  | inr (inr (inr link)) ↦ let e = link.kind_is in cc
]

-- of a block that reads as a shard
pub reads_ascending : (cid : CidParts) (block : List ℕ) (slots : List Slot) → Reads cid block (Shard slots) → AreAscending slots
reads_ascending cid block slots h = traverse_codec cid.codec block slots h
