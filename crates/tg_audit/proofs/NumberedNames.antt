-- A directory whose entries are named by the numbers below a count, in an order that is that of the numbers.
use Rattle.std.proofs.Common.{All, Bool, Contains, List, [], ap, ap₂, arith, false, inl, inr, length, refl, subst, sym, true, ℕ, ◌*◌, ◌+◌, ◌<◌, ◌∙◌, ◌∷◌, ◌≡◌, ◌≤◌}
use Rattle.std.proofs.lemmas.Bool.{le-ltb}
use Rattle.std.proofs.lemmas.Bool.Decides.{nat_tests}
use Rattle.std.proofs.lemmas.List.Elements.{All-cons, All-contains, All-head, All-nil, All-tail}
use Rattle.std.specs.List.{flat_map}
use Rattle.std.specs.Prelude.{if◌then◌else◌, map, nat_lt, ⊤, ◌++◌}
use Rattle.tg_audit.proofs.DirectoryTexts.{NamesAscend, name_bytes}
use Rattle.tg_audit.proofs.HashOrder.{HashesRise}
use Rattle.tg_audit.proofs.Members.{first_one, none_in, one_of, other_one}
use Rattle.tg_audit.proofs.NameSlots.{Ascend}
use Rattle.tg_audit.proofs.NumberLists.{NoneTwice, in_order, order_of, put_in}
use Rattle.tg_audit.proofs.Orders.{Rises}
use Rattle.tg_cid.specs.Cid.{CidParts}
use Rattle.tg_model.specs.Content.{DirEntry}
use Rattle.tg_model.specs.Texts.{Named, inserted, is_before, sorted}
use Rattle.tg_murmur.specs.NameHash.{name_hash}

module _ (name : ℕ → List ℕ) (count : ℕ) (ordered : (a b : ℕ) → a < count → b < count → is_before (name a) (name b) ≡ nat_lt a b) where
  pub one_number : (a b : ℕ) → a < count → b < count → name a ≡ name b → a ≡ b
  one_number a b ia ib same =
      let own : nat_lt b b ≡ false = le-ltb b b (omega arith) in
      let ab : nat_lt a b ≡ false = sym (ordered a b ia ib) ∙ ap (λ (n : List ℕ). is_before n (name b)) same ∙ ordered b b ib ib ∙ own in
      let ba : nat_lt b a ≡ false = sym (ordered b a ib ia) ∙ ap (λ (n : List ℕ). is_before (name b) n) same ∙ ordered b b ib ib ∙ own in
      grind (arith, nat_tests, ab, ba)

  -- the names of entries are those of numbers
  abbrev pub AreNamed : List DirEntry → List ℕ → Type 0
  AreNamed [] [] = ⊤
  AreNamed [] (n ∷ ns) = ⊥
  AreNamed (e ∷ l) [] = ⊥
  AreNamed (e ∷ l) (n ∷ ns) = (n < count) × (e.name ≡ name n) × AreNamed l ns

  abbrev IsNumber : List ℕ → Type 0
  IsNumber own = (n : ℕ) × (n < count) × (own ≡ name n)

  pub numbered : (l : List DirEntry) → ((own : List ℕ) → Contains (map (λ entry. entry.name) l) own → IsNumber own) → (ns : List ℕ) × AreNamed l ns
  numbered [] h = ([], tt)
  numbered (e ∷ l) h =
      let (n, less, is) = h e.name (first_one e.name (map (λ entry. entry.name) l)) in
      let (ns, named) = numbered l (λ own c. h own (other_one e.name own (map (λ entry. entry.name) l) c)) in
      (n ∷ ns, (less, is, named))

  pub named_inside : (l : List DirEntry) (ns : List ℕ) → AreNamed l ns → (n : ℕ) → Contains ns n → n < count
  named_inside [] [] h n c = absurd (none_in n c)
  named_inside [] (m ∷ ns) h n c = absurd h
  named_inside (e ∷ l) [] h n c = absurd h
  named_inside (e ∷ l) (m ∷ ns) h n c = elim (one_of m n ns c) [
    | inl same ↦ subst (λ (k : ℕ). k < count) same h.0
    | inr behind ↦ named_inside l ns h.2 n behind
  ]

  pub named_has : (l : List DirEntry) (ns : List ℕ) → AreNamed l ns → (n : ℕ) → n < count → Contains (map (λ entry. entry.name) l) (name n) → Contains ns n
  named_has [] ns h n less c = absurd (none_in (name n) c)
  named_has (e ∷ l) [] h n less c = absurd h
  named_has (e ∷ l) (m ∷ ns) h n less c = elim (one_of e.name (name n) (map (λ entry. entry.name) l) c) [
    | inl same ↦ subst (Contains (m ∷ ns)) (one_number m n h.0 less (sym h.1 ∙ same)) (first_one m ns)
    | inr behind ↦ other_one m n ns (named_has l ns h.2 n less behind)
  ]

  pub named_count : (l : List DirEntry) (ns : List ℕ) → AreNamed l ns → length l ≡ length ns
  named_count [] [] h = refl
  named_count [] (n ∷ ns) h = absurd h
  named_count (e ∷ l) [] h = absurd h
  named_count (e ∷ l) (n ∷ ns) h = let rest = named_count l ns h.2 in omega (arith, rest)

  -- ---- their order

  ascends_on : (e : DirEntry) (n : ℕ) (l : List DirEntry) (ns : List ℕ) → AreNamed (e ∷ l) (n ∷ ns) → NamesAscend (e ∷ l) → Ascend (n + 1) ns
  ascends_on e n [] [] h rise = tt
  ascends_on e n [] (m ∷ ns) h rise = absurd h.2
  ascends_on e n (f ∷ l) [] h rise = absurd h.2
  ascends_on e n (f ∷ l) (m ∷ ns) h rise =
      let less : nat_lt n m ≡ true = sym (ordered n m h.0 h.2.0) ∙ ap₂ (λ (a b : List ℕ). is_before a b) (sym h.1) (sym h.2.1) ∙ rise.0 in
      (grind (arith, nat_tests, less), ascends_on f m l ns h.2 rise.1)

  pub named_ascend : (l : List DirEntry) (ns : List ℕ) → AreNamed l ns → NamesAscend l → Ascend 0 ns
  named_ascend [] [] h rise = tt
  named_ascend [] (n ∷ ns) h rise = absurd h
  named_ascend (e ∷ l) [] h rise = absurd h
  named_ascend (e ∷ l) (n ∷ ns) h rise = (omega arith, ascends_on e n l ns h rise)

  -- the hash of a number's name
  abbrev pub hash_of : ℕ → ℕ
  hash_of n = name_hash (name n)

  abbrev pub HashesOf : List ℕ → Type 0
  HashesOf [] = ⊤
  HashesOf (n ∷ ns) = All (λ m. hash_of n < hash_of m) ns × HashesOf ns

  all_hashes : (low : ℕ) (l : List DirEntry) (ns : List ℕ) → AreNamed l ns → All (λ f. low < name_hash f.name) l → All (λ m. low < hash_of m) ns
  all_hashes low [] [] h all = All-nil (λ (m : ℕ). low < hash_of m)
  all_hashes low [] (n ∷ ns) h all = absurd h
  all_hashes low (e ∷ l) [] h all = absurd h
  all_hashes low (e ∷ l) (n ∷ ns) h all =
      All-cons (λ m. low < hash_of m) n ns
      (subst (λ (own : List ℕ). low < name_hash own) h.1 (All-head (λ f. low < name_hash f.name) e l all))
      (all_hashes low l ns h.2 (All-tail (λ f. low < name_hash f.name) e l all))

  pub named_hashes : (l : List DirEntry) (ns : List ℕ) → AreNamed l ns → HashesRise l → HashesOf ns
  named_hashes [] [] h rise = tt
  named_hashes [] (n ∷ ns) h rise = absurd h
  named_hashes (e ∷ l) [] h rise = absurd h
  named_hashes (e ∷ l) (n ∷ ns) h rise =
      (subst (λ (own : List ℕ). All (λ m. name_hash own < hash_of m) ns) h.1 (all_hashes (name_hash e.name) l ns h.2 rise.0), named_hashes l ns h.2 rise.1)

  pub hashes_once : (ns : List ℕ) → HashesOf ns → NoneTwice ns
  hashes_once [] h = tt
  hashes_once (n ∷ ns) h =
      (λ c. (let less = All-contains (λ m. hash_of n < hash_of m) ns n h.0 c in omega (arith, less)), hashes_once ns h.1)

  pub hashes_rise_in : (ns : List ℕ) → HashesOf ns → Rises hash_of ns
  hashes_rise_in [] h = tt
  hashes_rise_in (n ∷ ns) h = (weak ns h.0, hashes_rise_in ns h.1)
    where
      weak : (l : List ℕ) → All (λ m. hash_of n < hash_of m) l → All (λ m. hash_of n ≤ hash_of m) l
      weak [] all = All-nil (λ (m : ℕ). hash_of n ≤ hash_of m)
      weak (m ∷ l) all =
          All-cons (λ m. hash_of n ≤ hash_of m) m l (let less = All-head (λ m. hash_of n < hash_of m) m l all in omega (arith, less))
          (weak l (All-tail (λ m. hash_of n < hash_of m) m l all))

  -- the hash tells the numbers apart
  pub hashes_apart : (ns : List ℕ) → HashesOf ns → (x y : ℕ) → Contains ns x → Contains ns y → hash_of x ≡ hash_of y → x ≡ y
  hashes_apart [] h x y in_x in_y e = absurd (none_in x in_x)
  hashes_apart (n ∷ ns) h x y in_x in_y e = elim (one_of n x ns in_x) [
    | inl is_x ↦ elim (one_of n y ns in_y) [
      | inl is_y ↦ sym is_x ∙ is_y
      | inr behind ↦ absurd (let less = All-contains (λ m. hash_of n < hash_of m) ns y h.0 behind in let k = ap hash_of is_x in omega (arith, less, k, e))
    ]
    | inr before ↦ elim (one_of n y ns in_y) [
      | inl is_y ↦ absurd (let less = All-contains (λ m. hash_of n < hash_of m) ns x h.0 before in let k = ap hash_of is_y in omega (arith, less, k, e))
      | inr behind ↦ hashes_apart ns h.1 x y before behind e
    ]
  ]

  -- ---- what is said of them

  -- of an entry the one thing is said that is said of the number of its name
  abbrev pub SaysOf : {X : Type 0} → (DirEntry → X) → (ℕ → X) → DirEntry → Type 0
  SaysOf g said e = (n : ℕ) → n < count → e.name ≡ name n → g e ≡ said n

  pub named_texts : (g : DirEntry → List ℕ) (said : ℕ → List ℕ) (l : List DirEntry) (ns : List ℕ) → AreNamed l ns → All (SaysOf g said) l → flat_map g l ≡ flat_map said ns
  named_texts g said [] [] h all = refl
  named_texts g said [] (n ∷ ns) h all = absurd h
  named_texts g said (e ∷ l) [] h all = absurd h
  named_texts g said (e ∷ l) (n ∷ ns) h all =
      ap₂ (λ (a b : List ℕ). a ++ b) (All-head (SaysOf g said) e l all n h.0 h.1) (named_texts g said l ns h.2 (All-tail (SaysOf g said) e l all))

  pub named_list : {X : Type 0} (g : DirEntry → X) (said : ℕ → X) (l : List DirEntry) (ns : List ℕ) → AreNamed l ns → All (SaysOf g said) l → map g l ≡ map said ns
  named_list g said [] [] h all = refl
  named_list g said [] (n ∷ ns) h all = absurd h
  named_list g said (e ∷ l) [] h all = absurd h
  named_list {X} g said (e ∷ l) (n ∷ ns) h all =
      ap₂ (λ (a : X) (b : List X). a ∷ b) (All-head (SaysOf g said) e l all n h.0 h.1) (named_list g said l ns h.2 (All-tail (SaysOf g said) e l all))

  -- names of a length
  pub names_long : ((n : ℕ) → n < count → length (name n) ≡ 7) → (l : List DirEntry) (ns : List ℕ) → AreNamed l ns → name_bytes l ≡ length l * 7
  names_long each [] ns h = refl
  names_long each (e ∷ l) [] h = absurd h
  names_long each (e ∷ l) (n ∷ ns) h =
      let here : length e.name ≡ 7 = ap length h.1 ∙ each n h.0 in
      let rest = names_long each l ns h.2 in
      omega (arith, here, rest)

  pub names_short : ((n : ℕ) → n < count → length (name n) ≤ 7) → (l : List DirEntry) (ns : List ℕ) → AreNamed l ns → name_bytes l ≤ length l * 7
  names_short each [] ns h = omega arith
  names_short each (e ∷ l) [] h = absurd h
  names_short each (e ∷ l) (n ∷ ns) h =
      let here : length e.name ≡ length (name n) = ap length h.1 in
      let most = each n h.0 in
      let rest = names_short each l ns h.2 in
      omega (arith, here, most, rest)

  -- ---- their listing

  module _ (cid_of : ℕ → CidParts) where
    -- a number's name, with what is under it
    abbrev pub number_named : ℕ → Named
    number_named n = record { name = name n; cid = cid_of n }

    put_sorted : (x : ℕ) (ys : List ℕ) → x < count → ((y : ℕ) → Contains ys y → y < count) → inserted (number_named x) (map number_named ys) ≡ map number_named (put_in x ys)
    put_sorted x [] ix all = refl
    put_sorted x (y ∷ ys) ix all =
        ap (λ (t : Bool). if t then number_named y ∷ inserted (number_named x) (map number_named ys) else number_named x ∷ number_named y ∷ map number_named ys)
        (ordered y x (all y (first_one y ys)) ix)
        ∙ by (nat_lt y x) (put_sorted x ys ix (λ z c. all z (other_one y z ys c)))
      where
        by : (b : Bool) → inserted (number_named x) (map number_named ys) ≡ map number_named (put_in x ys)
            → (if b then number_named y ∷ inserted (number_named x) (map number_named ys) else number_named x ∷ number_named y ∷ map number_named ys)
            ≡ map number_named (if b then y ∷ put_in x ys else x ∷ y ∷ ys)
        by true on = ap (λ (l : List Named). number_named y ∷ l) on
        by false on = refl

    pub names_sorted : (ns : List ℕ) → ((n : ℕ) → Contains ns n → n < count) → sorted (map number_named ns) ≡ map number_named (in_order ns)
    names_sorted [] all = refl
    names_sorted (n ∷ ns) all =
        ap (inserted (number_named n)) (names_sorted ns (λ m c. all m (other_one n m ns c)))
        ∙ put_sorted n (in_order ns) (all n (first_one n ns)) (λ m c. all m (other_one n m ns (order_of ns m c)))
