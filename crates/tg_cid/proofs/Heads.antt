-- The heads behind which a CID's digest stands.
use Rattle.std.proofs.Common.{◌≡◌, ℕ, ◌+◌, ◌-◌, ◌/◌, ◌%◌, ◌<◌, ◌≤◌, ◌⊎◌, ◌↔◌, nat_lt, slice_get, Option, Some, None, MatchOption, List, [], ◌∷◌, ◌++◌, length, take, drop, replicate, All, min, refl, ap, sym, ◌∙◌, subst, inl, inr, arith}
use Rattle.std.proofs.lemmas.List.{append_assoc, append-nil, length-append, length-replicate, length-take-le, drop_all, drop_at, take-append-drop, take_all, take_at}
use Rattle.std.proofs.lemmas.List.Elements.{All-append, All-drop, All-replicate, All-take}
use Rattle.std.proofs.lemmas.Bool.{cases_lt, cond-true, lt-ltb}
use Rattle.tg_varint.specs.Computed.{varint, varint_within}
use Rattle.tg_varint.specs.Laws.{SpellingLaws}
use Rattle.tg_cid.specs.Cid.{CidParts}
use Rattle.tg_cid.specs.Fewest.{IsFewest, IsNoName, IsHead, Agrees, IsFewestHead, IsNoHead, IsFewestSize, IsNoSize, zero_head, one_head, identity_front}
use Rattle.tg_cid.specs.Spelling.{CidBytes, IsDigestSize, codec_code, hash_code}
use Rattle.tg_cid.specs.declared.cid.Codec.{Codec}
use Rattle.tg_cid.specs.declared.cid.Codec.TheVariants.{DagPb, Raw}
use Rattle.tg_cid.specs.declared.cid.HashKind.TheVariants.{Sha256, Identity}
use Rattle.tg_cid.proofs.Lengths.{name_bytes}
use Rattle.tg_cid.proofs.Unique.{no_front, one_v1}
use Rattle.tg_cid.proofs.Written.{size_most, one_written, same_version}

-- ---- lists that agree

agrees_rest : (x y : ℕ) (a b : List ℕ) → Agrees (x ∷ a) (y ∷ b) → (x ≡ y) × Agrees a b
agrees_rest x y a b (inl h) = let e = h.1 in (cc, inl (h.0, cc))
agrees_rest x y a b (inr h) = let e = h.1 in (cc, inr (h.0, cc))

agrees_cons : (x y : ℕ) (a b : List ℕ) → x ≡ y → Agrees a b → Agrees (x ∷ a) (y ∷ b)
agrees_cons x y a b e (inl h) = let f = h.1 in inl (h.0, cc)
agrees_cons x y a b e (inr h) = let f = h.1 in inr (h.0, cc)

-- what agrees with a list agrees with its front
agrees_front : (name a b : List ℕ) → Agrees name (a ++ b) → Agrees name a
agrees_front [] a b h = inl (a, refl)
agrees_front (x ∷ name) [] b h = inr (x ∷ name, refl)
agrees_front (x ∷ name) (y ∷ a) b h =
    let both = agrees_rest x y name (a ++ b) h in
    agrees_cons x y name a both.0 (agrees_front name a b both.1)

-- bytes with which a CID begins agree with its head
name_agrees : (head name more digest : List ℕ) → name ++ more ≡ head ++ digest → Agrees name head
name_agrees head name more digest e = agrees_front name head digest (inl (more, e))

-- the test on lists of one length says so
pub fronts_agree : (a b : List ℕ) → (take (min (length a) (length b)) a ≡ take (min (length a) (length b)) b) ↔ Agrees a b
fronts_agree a b = (to, from)
  where
    to : take (min (length a) (length b)) a ≡ take (min (length a) (length b)) b → Agrees a b
    to e = elim (cases_lt (length b) (length a)) [
      | inl past ↦
          let least : min (length a) (length b) ≡ length b = omega arith in
          let same : take (length b) a ≡ take (length b) b = subst (λ (n : ℕ). take n a ≡ take n b) least e in
          inr (drop (length b) a, sym (take-append-drop (length b) a) ∙ ap (λ (l : List ℕ). l ++ drop (length b) a) (same ∙ take_all (length b) b (omega arith)))
      | inr few ↦
          let least : min (length a) (length b) ≡ length a = omega arith in
          let same : take (length a) a ≡ take (length a) b = subst (λ (n : ℕ). take n a ≡ take n b) least e in
          inl (drop (length a) b, ap (λ (l : List ℕ). l ++ drop (length a) b) (sym (take_all (length a) a (omega arith)) ∙ same) ∙ take-append-drop (length a) b)
    ]

    from : Agrees a b → take (min (length a) (length b)) a ≡ take (min (length a) (length b)) b
    from (inl h) =
        let long : length b ≡ length a + length h.0 = ap length (sym h.1) ∙ length-append a h.0 in
        let least : min (length a) (length b) ≡ length a = omega arith in
        subst (λ (n : ℕ). take n a ≡ take n b) (sym least)
        (take_all (length a) a (omega arith) ∙ sym (ap (λ (l : List ℕ). take (length a) l) (sym h.1) ∙ take_at a h.0 (length a) refl))
    from (inr h) =
        let long : length a ≡ length b + length h.0 = ap length h.1 ∙ length-append b h.0 in
        let least : min (length a) (length b) ≡ length b = omega arith in
        subst (λ (n : ℕ). take n a ≡ take n b) (sym least)
        (ap (λ (l : List ℕ). take (length b) l) h.1 ∙ take_at b h.0 (length b) refl ∙ sym (take_all (length b) b (omega arith)))

-- ---- the head of a CID

-- the CID of a head and a digest
pub head_cid : SpellingLaws → (head digest : List ℕ) (size : ℕ) → IsHead head size → length digest ≡ size → All (λ b. b < 256) digest
    → (cid : CidParts) × CidBytes cid (head ++ digest)
head_cid laws head digest size (inl e) long are_bytes = (
  record { version = 0; codec = DagPb; hash = Sha256; digest = digest },
  inl (record {
    version = refl;
    codec = refl;
    hash = refl;
    size = long ∙ e.1;
    are_bytes = are_bytes;
    whole = ap (λ (l : List ℕ). l ++ digest) e.0;
  }),
)
head_cid laws head digest size (inr k) long are_bytes =
    let cid : CidParts = record { version = 1; codec = k.0; hash = k.1; digest = digest } in
    let sized : IsDigestSize k.1 (length digest) = subst (λ (n : ℕ). IsDigestSize k.1 n) (sym long) k.2 in
    let most : length digest ≤ 128 = size_most k.1 (length digest) sized in (
      cid,
      inr (one_written laws cid (varint (length digest)) (head ++ digest) sized are_bytes (laws.computed (length digest) (omega arith))
          (ap (λ (l : List ℕ). l ++ digest) (k.3 ∙ ap (λ (n : ℕ). one_head k.0 k.1 n) (sym long)))),
    )

-- the head and the rest of a CID's bytes: a CIDv1 has one spelling, so its bytes are those that are written
cid_head : SpellingLaws → (cid : CidParts) (name : List ℕ) → CidBytes cid name
    → (head : List ℕ) × IsHead head (length cid.digest) × (name ≡ head ++ cid.digest)
cid_head laws cid name (inl h) = (zero_head, inl (refl, h.size), h.whole)
cid_head laws cid name (inr h) =
    let size : ℕ = length cid.digest in
    let most : size ≤ 128 = size_most cid.hash size h.size in
    let bytes : List ℕ = one_head cid.codec cid.hash size ++ cid.digest in
    let written =
    same_version cid bytes h.version (one_written laws cid (varint size) bytes h.size h.are_bytes (laws.computed size (omega arith)) refl) in
    (one_head cid.codec cid.hash size, inr (cid.codec, cid.hash, h.size, refl), one_v1 laws cid name bytes h written)

zeros_are_bytes : (n : ℕ) → All (λ b. b < 256) (replicate {A = ℕ} n 0)
zeros_are_bytes n = All-replicate (λ (b : ℕ). b < 256) n 0 (omega arith)

-- there is a CID
pub some_cid : SpellingLaws → (cid : CidParts) × (bytes : List ℕ) × CidBytes cid bytes
some_cid laws =
    let digest = replicate {A = ℕ} 32 0 in
    let made = head_cid laws zero_head digest 32 (inl (refl, refl)) (length-replicate {A = ℕ} 32 0) (zeros_are_bytes 32) in
    (made.0, zero_head ++ digest, made.1)

-- ---- from heads to CIDs

-- bytes that are no more than those of a CID and agree with its head
record Completes (head name : List ℕ) (size : ℕ) : Type 0 where
  pub digest : List ℕ
  pub more : List ℕ
  pub long : length digest ≡ size
  pub are_bytes : All (λ b. b < 256) digest
  pub whole : name ++ more ≡ head ++ digest

name_goes_on : (head name : List ℕ) (size : ℕ) → Agrees name head → All (λ b. b < 256) name → length name ≤ length head + size
    → Completes head name size
name_goes_on head name size (inl h) bytes fewer = record {
  digest = replicate size 0;
  more = h.0 ++ replicate size 0;
  long = length-replicate {A = ℕ} size 0;
  are_bytes = zeros_are_bytes size;
  whole = sym (append_assoc name h.0 (replicate size 0)) ∙ ap (λ (l : List ℕ). l ++ replicate size 0) h.1;
}
name_goes_on head name size (inr h) bytes fewer =
    let past = h.0 in
    let left : ℕ = size - length past in
    let long : length name ≡ length head + length past = ap length h.1 ∙ length-append head past in
    let zero_count : length (replicate {A = ℕ} left 0) ≡ left = length-replicate {A = ℕ} left 0 in
    let count : length (past ++ replicate {A = ℕ} left 0) ≡ length past + length (replicate {A = ℕ} left 0) = length-append past (replicate {A = ℕ} left 0) in
    let past_is : drop (length head) name ≡ past = ap (λ (l : List ℕ). drop (length head) l) h.1 ∙ drop_at head past (length head) refl in
    let past_bytes : All (λ b. b < 256) past =
    subst (λ (l : List ℕ). All (λ b. b < 256) l) past_is (All-drop (λ (b : ℕ). b < 256) (length head) name bytes) in
    record {
      digest = past ++ replicate left 0;
      more = replicate left 0;
      long = omega arith;
      are_bytes = All-append (λ (b : ℕ). b < 256) past (replicate left 0) past_bytes (zeros_are_bytes left);
      whole = ap (λ (l : List ℕ). l ++ replicate left 0) h.1 ∙ append_assoc head past (replicate left 0);
    }

least_name : SpellingLaws → (c : CidParts) (name more : List ℕ) (count : ℕ) → IsFewestHead name count → CidBytes c (name ++ more)
    → count ≤ length (name ++ more)
least_name laws c name more count f h =
    let k = cid_head laws c (name ++ more) h in
    let low : count ≤ length k.0 + length c.digest = f.fewest k.0 (length c.digest) k.1 (name_agrees k.0 name more c.digest k.2) in
    let long : length (name ++ more) ≡ length k.0 + length c.digest = ap length k.2 ∙ length-append k.0 c.digest in
    omega arith

-- what no head agrees with begins no CID, nor do bytes that pass a CID
pub no_head : SpellingLaws → (name : List ℕ) → IsNoHead name → IsNoName name
no_head laws name none = record {
  none = λ c more h.
      let k = cid_head laws c (name ++ more) h in
      none.none k.0 (length c.digest) k.1 (name_agrees k.0 name more c.digest k.2);
}

pub past_name : SpellingLaws → (name : List ℕ) (count : ℕ) → IsFewestHead name count → count < length name → IsNoName name
past_name laws name count f past = record { none = λ c more h. by f.agrees c more h }
  where
    by : Agrees name f.head → (c : CidParts) (more : List ℕ) → CidBytes c (name ++ more) → ⊥
    by (inl a) c more h =
        let long : length f.head ≡ length name + length a.0 = ap length (sym a.1) ∙ length-append name a.0 in
        let count_is : count ≡ length f.head + f.size = f.count_is in
        omega arith
    by (inr a) c more h =
        let digest : List ℕ = take f.size a.0 in
        let rest : List ℕ = drop f.size a.0 in
        let count_is : count ≡ length f.head + f.size = f.count_is in
        let long : length name ≡ length f.head + length a.0 = ap length a.1 ∙ length-append f.head a.0 in
        let size : length digest ≡ f.size = length-take-le f.size a.0 (omega arith) in
        let split : a.0 ≡ digest ++ rest = sym (take-append-drop f.size a.0) in
        let whole : name ++ more ≡ (f.head ++ digest) ++ (rest ++ more) =
        ap (λ (l : List ℕ). l ++ more) (a.1 ∙ ap (λ (l : List ℕ). f.head ++ l) split ∙ sym (append_assoc f.head digest rest))
        ∙ append_assoc (f.head ++ digest) rest more in
        let all : All (λ b. b < 256) (name ++ more) = name_bytes c (name ++ more) h in
        let name_is : drop (length f.head) (name ++ more) ≡ digest ++ (rest ++ more) =
        ap (λ (l : List ℕ). drop (length f.head) l) (whole ∙ append_assoc f.head digest (rest ++ more)) ∙ drop_at f.head (digest ++ (rest ++ more)) (length f.head) refl in
        let behind : All (λ b. b < 256) (digest ++ (rest ++ more)) =
        subst (λ (l : List ℕ). All (λ b. b < 256) l) name_is (All-drop (λ (b : ℕ). b < 256) (length f.head) (name ++ more) all) in
        let digest_bytes : All (λ b. b < 256) digest =
        subst (λ (l : List ℕ). All (λ b. b < 256) l) (take_at digest (rest ++ more) (length digest) refl)
        (All-take (λ (b : ℕ). b < 256) (length digest) (digest ++ (rest ++ more)) behind) in
        let made = head_cid laws f.head digest f.size f.kind size digest_bytes in
        let one = no_front laws made.0 c (f.head ++ digest) (name ++ more) (rest ++ more) [] made.1 h (sym whole ∙ sym (append-nil (name ++ more))) in
        let same : length (f.head ++ digest) ≡ length (name ++ more) = ap length one.0 in
        omega (arith, length-append f.head digest, length-append name more)

pub fewest_name : SpellingLaws → (name : List ℕ) (count : ℕ) → IsFewestHead name count → length name ≤ count → All (λ b. b < 256) name → IsFewest name count
fewest_name laws name count f less bytes =
    let count_is : count ≡ length f.head + f.size = f.count_is in
    let done = name_goes_on f.head name f.size f.agrees bytes (omega arith) in
    let cid = head_cid laws f.head done.digest f.size f.kind done.long done.are_bytes in
    let long : length (name ++ done.more) ≡ length f.head + length done.digest = ap length done.whole ∙ length-append f.head done.digest in
    let digest : length done.digest ≡ f.size = done.long in
    record {
      cid = cid.0;
      more = done.more;
      begins = subst (CidBytes cid.0) (sym done.whole) cid.1;
      count_is = omega arith;
      fewest = λ other rest h. least_name laws other name rest count f h;
    }

-- ---- the length of an identity digest

short_varint : (n : ℕ) → n < 128 → varint n ≡ n ∷ []
short_varint n less = cond-true (nat_lt n 128) (n ∷ []) ((n % 128 + 128) ∷ varint_within 7 (n / 128)) (lt-ltb n 128 less)

-- it is below 128, or 128
size_cases : (n : ℕ) → n ≤ 128 → ((n < 128) × (varint n ≡ n ∷ [])) ⊎ (n ≡ 128)
size_cases n small = elim (cases_lt n 128) [
  | inl less ↦ inl (less, short_varint n less)
  | inr more ↦ inr (omega arith)
]

-- with which number bytes that begin so agree
size_first : (first : ℕ) (rest : List ℕ) (n : ℕ) → n ≤ 128 → Agrees (first ∷ rest) (varint n) → (n < 128 → first ≡ n) × (n ≡ 128 → first ≡ 128)
size_first first rest n small h = (
  λ less. (agrees_rest first n rest [] (subst (λ (l : List ℕ). Agrees (first ∷ rest) l) (short_varint n less) h)).0,
  λ same. (agrees_rest first 128 rest (1 ∷ []) (subst (λ (m : ℕ). Agrees (first ∷ rest) (varint m)) same h)).0,
)

-- the first byte, or none
pub some_first : (bytes : List ℕ) (x : ℕ) → slice_get bytes 0 ≡ Some x → (rest : List ℕ) × (bytes ≡ x ∷ rest)
some_first [] x h = cc
some_first (b ∷ rest) x h = let same : b ≡ x = cc in (rest, ap (λ (n : ℕ). n ∷ rest) same)

pub none_first : (bytes : List ℕ) → slice_get bytes 0 ≡ None → bytes ≡ []
none_first [] h = refl
none_first (b ∷ rest) h = cc

pub no_size_yet : (bytes : List ℕ) → bytes ≡ [] → IsFewestSize bytes 4
no_size_yet bytes e = record {
  size = 0;
  small = omega arith;
  agrees = inl (0 ∷ [], ap (λ (l : List ℕ). l ++ 0 ∷ []) e);
  count_is = refl;
  fewest = λ other small h. omega arith;
}

pub short_size : (bytes : List ℕ) (first : ℕ) (rest : List ℕ) → bytes ≡ first ∷ rest → first < 128 → IsFewestSize bytes (4 + first)
short_size bytes first rest e less = record {
  size = first;
  small = omega arith;
  agrees = inr (rest, e ∙ ap (λ (l : List ℕ). l ++ rest) (sym (short_varint first less)));
  count_is = omega (arith, ap length (short_varint first less));
  fewest = λ other small h.
      let told = size_first first rest other small (subst (λ (l : List ℕ). Agrees l (varint other)) e h) in
      elim (size_cases other small) [
        | inl p ↦ let same : first ≡ other = told.0 p.0 in omega arith
        | inr p ↦ let same : first ≡ 128 = told.1 p in omega arith
      ];
}

abbrev longest : List ℕ
longest = 0x80 ∷ 1 ∷ []

pub long_size : (bytes : List ℕ) (first : ℕ) (rest : List ℕ) → bytes ≡ first ∷ rest → 128 ≤ first → Agrees bytes longest → IsFewestSize bytes 133
long_size bytes first rest e more agrees = record {
  size = 128;
  small = omega arith;
  agrees = agrees;
  count_is = refl;
  fewest = λ other small h.
      let told = size_first first rest other small (subst (λ (l : List ℕ). Agrees l (varint other)) e h) in
      elim (size_cases other small) [
        | inl p ↦ let same : first ≡ other = told.0 p.0 in let less : other < 128 = p.0 in omega arith
        | inr p ↦ omega arith
      ];
}

pub no_size : (bytes : List ℕ) (first : ℕ) (rest : List ℕ) → bytes ≡ first ∷ rest → 128 ≤ first → (Agrees bytes longest → ⊥) → IsNoSize bytes
no_size bytes first rest e more apart = record {
  none = λ size small h.
      let told = size_first first rest size small (subst (λ (l : List ℕ). Agrees l (varint size)) e h) in
      elim (size_cases size small) [
        | inl p ↦ let same : first ≡ size = told.0 p.0 in let less : size < 128 = p.0 in omega arith
        | inr p ↦ apart (subst (λ (n : ℕ). Agrees bytes (varint n)) p h)
      ];
}

-- ---- the fewest bytes behind a head

-- a varint has a byte
some_varint : (n : ℕ) → n ≤ 128 → (1 ≤ length (varint n)) × (length (varint n) ≤ 2)
some_varint n small = elim (size_cases n small) [
  | inl p ↦ (omega (arith, ap length p.1), omega (arith, ap length p.1))
  | inr p ↦ (omega (arith, ap (λ (m : ℕ). length (varint m)) p), omega (arith, ap (λ (m : ℕ). length (varint m)) p))
]

-- which is no longer for a smaller number
varint_grows : (n m : ℕ) → m ≤ 128 → n ≤ m → length (varint n) + n ≤ length (varint m) + m
varint_grows n m small less =
    let some = some_varint m small in
    let low : 1 ≤ length (varint m) = some.0 in
    elim (size_cases n (omega arith)) [
      | inl p ↦ omega (arith, ap length p.1)
      | inr p ↦
          let same : n ≡ m = omega arith in
          let lengths : length (varint n) ≡ length (varint m) = ap (λ (k : ℕ). length (varint k)) same in
          omega arith
    ]

-- no CID is shorter than 4 bytes
least_head : (head : List ℕ) (size : ℕ) → IsHead head size → 4 ≤ length head + size
least_head head size (inl h) = omega (arith, ap length h.0, h.1)
least_head head size (inr (codec, hash, is, e)) =
    let some = some_varint size (size_most hash size is) in
    let low : 1 ≤ length (varint size) = some.0 in
    omega (arith, ap length e)

-- behind an identity hash the length tells
module _ (codec : Codec) (name : List ℕ) where
  one_code : (a b : Codec) → codec_code a ≡ codec_code b → a ≡ b
  one_code Raw Raw e = refl
  one_code Raw DagPb e = absurd (omega arith)
  one_code DagPb Raw e = absurd (omega arith)
  one_code DagPb DagPb e = refl

  -- a head that agrees with bytes behind these three is one of an identity hash
  agreeing : (rest head : List ℕ) (size : ℕ) → IsHead head size → Agrees (identity_front codec ++ rest) head
      → (size ≤ 128) × (length head ≡ 3 + length (varint size)) × Agrees rest (varint size)
  agreeing rest head size (inl h) a =
      let first = agrees_rest 1 0x12 _ _ (subst (λ (l : List ℕ). Agrees (identity_front codec ++ rest) l) h.0 a) in
      absurd (omega (arith, first.0))
  agreeing rest head size (inr (other, hash, is, e)) a =
      let first = agrees_rest 1 1 _ _ (subst (λ (l : List ℕ). Agrees (identity_front codec ++ rest) l) e a) in
      let second = agrees_rest (codec_code codec) (codec_code other) _ _ first.1 in
      let third = agrees_rest 0 (hash_code hash) rest (varint size) second.1 in
      (size_most hash size is, omega (arith, ap length e), third.1)

  behind_front : (rest : List ℕ) (count : ℕ) → name ≡ identity_front codec ++ rest → IsFewestSize rest count → IsFewestHead name count
  behind_front rest count e f = record {
    head = one_head codec Identity f.size;
    size = f.size;
    kind = inr (codec, Identity, f.small, refl);
    agrees = subst (λ (l : List ℕ). Agrees l (one_head codec Identity f.size)) (sym e)
        (agrees_cons 1 1 _ _ refl (agrees_cons (codec_code codec) (codec_code codec) _ _ refl (agrees_cons 0 0 rest (varint f.size) refl f.agrees)));
    count_is = omega (arith, f.count_is);
    fewest = λ other number kind a.
        let told = agreeing rest other number kind (subst (λ (l : List ℕ). Agrees l other) e a) in
        let low : f.size ≤ number = f.fewest number told.0 told.2 in
        let grows : length (varint f.size) + f.size ≤ length (varint number) + number = varint_grows f.size number told.0 low in
        omega (arith, told.1, f.count_is);
  }

  within_front : (more : List ℕ) (count : ℕ) → name ++ more ≡ identity_front codec → IsFewestSize [] count → IsFewestHead name count
  within_front more count e f =
      let none : f.size ≤ 0 = f.fewest 0 (omega arith) (inl (0 ∷ [], refl)) in
      let zero : f.size ≡ 0 = omega arith in
      let four : count ≡ 4 = f.count_is ∙ ap (λ (n : ℕ). 3 + length (varint n) + n) zero in
      record {
        head = one_head codec Identity 0;
        size = 0;
        kind = inr (codec, Identity, omega arith, refl);
        agrees = inl (more ++ 0 ∷ [], sym (append_assoc name more (0 ∷ [])) ∙ ap (λ (l : List ℕ). l ++ 0 ∷ []) e);
        count_is = four;
        fewest = λ other number kind a. let low : 4 ≤ length other + number = least_head other number kind in omega arith;
      }

  -- what is behind the three bytes, where so many have come
  abbrev behind : List ℕ
  behind = drop (min (length name) 3) name

  behind_is : (rest : List ℕ) → name ≡ identity_front codec ++ rest → behind ≡ rest
  behind_is rest e =
      let long : length name ≡ 3 + length rest = ap length e ∙ length-append (identity_front codec) rest in
      let least : min (length name) 3 ≡ 3 = omega arith in
      ap (λ (n : ℕ). drop n name) least ∙ ap (λ (l : List ℕ). drop 3 l) e

  nothing_behind : (more : List ℕ) → name ++ more ≡ identity_front codec → behind ≡ []
  nothing_behind more e =
      let long : length name + length more ≡ 3 = sym (length-append name more) ∙ ap length e in
      let least : min (length name) 3 ≡ length name = omega arith in
      ap (λ (n : ℕ). drop n name) least ∙ drop_all (length name) name (omega arith)

  by_length : (count : ℕ) → Agrees name (identity_front codec) → IsFewestSize behind count → IsFewestHead name count
  by_length count (inl a) f = within_front a.0 count a.1 (subst (λ (l : List ℕ). IsFewestSize l count) (nothing_behind a.0 a.1) f)
  by_length count (inr a) f = behind_front a.0 count a.1 (subst (λ (l : List ℕ). IsFewestSize l count) (behind_is a.0 a.1) f)

  by_no_length : Agrees name (identity_front codec) → IsNoSize behind → IsNoHead name
  by_no_length (inl a) f =
      let none : IsNoSize [] = subst IsNoSize (nothing_behind a.0 a.1) f in
      absurd (none.none 0 (omega arith) (inl (0 ∷ [], refl)))
  by_no_length (inr a) f =
      let none : IsNoSize a.0 = subst IsNoSize (behind_is a.0 a.1) f in
      record {
        none = λ head size kind h.
            let told = agreeing a.0 head size kind (subst (λ (l : List ℕ). Agrees l head) a.1 h) in
            none.none size told.0 told.2;
      }

  -- what is answered of it is answered of the whole
  pub by_answer : (o : Option ℕ) → Agrees name (identity_front codec) → MatchOption o (IsNoSize behind) (λ count. IsFewestSize behind count)
      → MatchOption o (IsNoHead name) (λ count. IsFewestHead name count)
  by_answer None a f = by_no_length a f
  by_answer (Some count) a f = by_length count a f

-- ---- the fewest bytes with sha2-256

-- bytes that agree with no front of an identity hash
pub record IsOther (name : List ℕ) : Type 0 where
  pub raw : Agrees name (identity_front Raw) → ⊥
  pub dag_pb : Agrees name (identity_front DagPb) → ⊥

pub other_with : (name : List ℕ) → (Agrees name (identity_front Raw) → ⊥) → (Agrees name (identity_front DagPb) → ⊥) → IsOther name
other_with name r d = record { raw = r; dag_pb = d }

abbrev sha_head : Codec → List ℕ
sha_head codec = 1 ∷ codec_code codec ∷ 0x12 ∷ 0x20 ∷ []

-- their heads
other_heads : (name head : List ℕ) (size : ℕ) → IsOther name → IsHead head size → Agrees name head
    → (size ≡ 32) × ((head ≡ zero_head) ⊎ ((codec : Codec) × (head ≡ sha_head codec)))
other_heads name head size other (inl h) a = (h.1, inl h.0)
other_heads name head size other (inr (codec, Sha256, is, e)) a = (is, inr (codec, e ∙ ap (λ (n : ℕ). one_head codec Sha256 n) is))
other_heads name head size other (inr (codec, Identity, is, e)) a =
    absurd (apart codec (agrees_front name (identity_front codec) (varint size) (subst (Agrees name) e a)))
  where
    apart : (codec : Codec) → Agrees name (identity_front codec) → ⊥
    apart Raw h = other.raw h
    apart DagPb h = other.dag_pb h

pub by_zero : (name : List ℕ) → IsOther name → Agrees name zero_head → IsFewestHead name 34
by_zero name other agrees = record {
  head = zero_head;
  size = 32;
  kind = inl (refl, refl);
  agrees = agrees;
  count_is = refl;
  fewest = λ head size kind a.
      let told = other_heads name head size other kind a in
      elim told.1 [
        | inl e ↦ omega (arith, ap length e, told.0)
        | inr k ↦ omega (arith, ap length k.1, told.0)
      ];
}

pub by_one : (name : List ℕ) (codec : Codec) → IsOther name → (Agrees name zero_head → ⊥) → Agrees name (sha_head codec) → IsFewestHead name 36
by_one name codec other zero agrees = record {
  head = sha_head codec;
  size = 32;
  kind = inr (codec, Sha256, refl, refl);
  agrees = agrees;
  count_is = refl;
  fewest = λ head size kind a.
      let told = other_heads name head size other kind a in
      elim told.1 [
        | inl e ↦ absurd (zero (subst (Agrees name) e a))
        | inr k ↦ omega (arith, ap length k.1, told.0)
      ];
}

pub by_none : (name : List ℕ) → IsOther name → (Agrees name zero_head → ⊥) → (Agrees name (sha_head Raw) → ⊥) → (Agrees name (sha_head DagPb) → ⊥) → IsNoHead name
by_none name other zero raw dag_pb = record {
  none = λ head size kind a.
      let told = other_heads name head size other kind a in
      elim told.1 [
        | inl e ↦ zero (subst (Agrees name) e a)
        | inr k ↦ apart k.0 (subst (Agrees name) k.1 a)
      ];
}
  where
    apart : (codec : Codec) → Agrees name (sha_head codec) → ⊥
    apart Raw h = raw h
    apart DagPb h = dag_pb h
