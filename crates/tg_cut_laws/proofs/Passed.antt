-- One kind of limit is passed first.
use Rattle.std.proofs.Common.{◌≡◌, Bool, true, false, nat_lt, refl, sym, ◌∙◌, arith}
use Rattle.std.proofs.lemmas.Bool.{le-ltb, lt-ltb}
use Rattle.tg_model.specs.LimitNumbers.{LimitNumbers}
use Rattle.tg_model.specs.declared.limits.LimitKind.TheVariants as kinds
use Rattle.tg_model.specs.declared.limits.LimitKind.{LimitKind}
use Rattle.tg_verify.specs.Counting.{AreUnpassed, IsFirstPassed}

-- the first kind, by whether the limit of each before the last is passed
abbrev first_of : Bool → Bool → Bool → Bool → Bool → LimitKind
first_of true names output blocks bytes = kinds.Entries
first_of false true output blocks bytes = kinds.Names
first_of false false true blocks bytes = kinds.Output
first_of false false false true bytes = kinds.SeenBlocks
first_of false false false false true = kinds.SeenBytes
first_of false false false false false = kinds.Reused

-- by what is counted
abbrev first_by : LimitNumbers → LimitNumbers → LimitKind
first_by limits n =
    first_of (nat_lt limits.entries n.entries) (nat_lt limits.names n.names) (nat_lt limits.output n.output) (nat_lt limits.seen_blocks n.seen_blocks)
    (nat_lt limits.seen_bytes n.seen_bytes)

-- the kind that is passed first is this one
is_first : (limits n : LimitNumbers) (kind : LimitKind) → IsFirstPassed limits n kind → kind ≡ first_by limits n
is_first limits n kinds.Block h = absurd h
is_first limits n kinds.Depth h = absurd h
is_first limits n kinds.Received h = absurd h
is_first limits n kinds.Entries h = by (nat_lt limits.entries n.entries) (lt-ltb limits.entries n.entries h)
  where
    by : (a : Bool) → a ≡ true
        → kinds.Entries ≡ first_of a (nat_lt limits.names n.names) (nat_lt limits.output n.output) (nat_lt limits.seen_blocks n.seen_blocks) (nat_lt limits.seen_bytes n.seen_bytes)
    by true e = refl
    by false e = absurd (cc e)
is_first limits n kinds.Names h = by (nat_lt limits.entries n.entries) (nat_lt limits.names n.names) (le-ltb limits.entries n.entries h.0) (lt-ltb limits.names n.names h.1)
  where
    by : (a b : Bool) → a ≡ false → b ≡ true
        → kinds.Names ≡ first_of a b (nat_lt limits.output n.output) (nat_lt limits.seen_blocks n.seen_blocks) (nat_lt limits.seen_bytes n.seen_bytes)
    by true b e d = absurd (cc e)
    by false true e d = refl
    by false false e d = absurd (cc d)
is_first limits n kinds.Output h =
    by (nat_lt limits.entries n.entries) (nat_lt limits.names n.names) (nat_lt limits.output n.output) (le-ltb limits.entries n.entries h.0) (le-ltb limits.names n.names h.1)
    (lt-ltb limits.output n.output h.2)
  where
    by : (a b c : Bool) → a ≡ false → b ≡ false → c ≡ true → kinds.Output ≡ first_of a b c (nat_lt limits.seen_blocks n.seen_blocks) (nat_lt limits.seen_bytes n.seen_bytes)
    by true b c e d f = absurd (cc e)
    by false true c e d f = absurd (cc d)
    by false false true e d f = refl
    by false false false e d f = absurd (cc f)
is_first limits n kinds.SeenBlocks h =
    by (nat_lt limits.entries n.entries) (nat_lt limits.names n.names) (nat_lt limits.output n.output) (nat_lt limits.seen_blocks n.seen_blocks)
    (le-ltb limits.entries n.entries h.0) (le-ltb limits.names n.names h.1) (le-ltb limits.output n.output h.2) (lt-ltb limits.seen_blocks n.seen_blocks h.3)
  where
    by : (a b c d : Bool) → a ≡ false → b ≡ false → c ≡ false → d ≡ true → kinds.SeenBlocks ≡ first_of a b c d (nat_lt limits.seen_bytes n.seen_bytes)
    by true b c d e f g h = absurd (cc e)
    by false true c d e f g h = absurd (cc f)
    by false false true d e f g h = absurd (cc g)
    by false false false true e f g h = refl
    by false false false false e f g h = absurd (cc h)
is_first limits n kinds.SeenBytes h =
    by (nat_lt limits.entries n.entries) (nat_lt limits.names n.names) (nat_lt limits.output n.output) (nat_lt limits.seen_blocks n.seen_blocks)
    (nat_lt limits.seen_bytes n.seen_bytes) (le-ltb limits.entries n.entries h.0) (le-ltb limits.names n.names h.1) (le-ltb limits.output n.output h.2)
    (le-ltb limits.seen_blocks n.seen_blocks h.3) (lt-ltb limits.seen_bytes n.seen_bytes h.4)
  where
    by : (a b c d e : Bool) → a ≡ false → b ≡ false → c ≡ false → d ≡ false → e ≡ true → kinds.SeenBytes ≡ first_of a b c d e
    by true b c d e f g h i j = absurd (cc f)
    by false true c d e f g h i j = absurd (cc g)
    by false false true d e f g h i j = absurd (cc h)
    by false false false true e f g h i j = absurd (cc i)
    by false false false false true f g h i j = refl
    by false false false false false f g h i j = absurd (cc j)
is_first limits n kinds.Reused h =
    by (nat_lt limits.entries n.entries) (nat_lt limits.names n.names) (nat_lt limits.output n.output) (nat_lt limits.seen_blocks n.seen_blocks)
    (nat_lt limits.seen_bytes n.seen_bytes) (le-ltb limits.entries n.entries h.0) (le-ltb limits.names n.names h.1) (le-ltb limits.output n.output h.2)
    (le-ltb limits.seen_blocks n.seen_blocks h.3) (le-ltb limits.seen_bytes n.seen_bytes h.4)
  where
    by : (a b c d e : Bool) → a ≡ false → b ≡ false → c ≡ false → d ≡ false → e ≡ false → kinds.Reused ≡ first_of a b c d e
    by true b c d e f g h i j = absurd (cc f)
    by false true c d e f g h i j = absurd (cc g)
    by false false true d e f g h i j = absurd (cc h)
    by false false false true e f g h i j = absurd (cc i)
    by false false false false true f g h i j = absurd (cc j)
    by false false false false false f g h i j = refl

-- so two are one
pub one_first : (limits n : LimitNumbers) (a b : LimitKind) → IsFirstPassed limits n a → IsFirstPassed limits n b → a ≡ b
one_first limits n a b h g = is_first limits n a h ∙ sym (is_first limits n b g)

-- and none where none is passed
pub none_first : (limits n : LimitNumbers) (kind : LimitKind) → AreUnpassed limits n → IsFirstPassed limits n kind → ⊥
none_first limits n kinds.Block h p = p
none_first limits n kinds.Depth h p = p
none_first limits n kinds.Received h p = p
none_first limits n kinds.Entries h p = let a = h.entries in omega (arith, a, p)
none_first limits n kinds.Names h p = let a = h.names in let b = p.1 in omega (arith, a, b)
none_first limits n kinds.Output h p = let a = h.output in let b = p.2 in omega (arith, a, b)
none_first limits n kinds.SeenBlocks h p = let a = h.seen_blocks in let b = p.3 in omega (arith, a, b)
none_first limits n kinds.SeenBytes h p = let a = h.seen_bytes in let b = p.4 in omega (arith, a, b)
none_first limits n kinds.Reused h p = let a = h.reused in let b = p.5 in omega (arith, a, b)
