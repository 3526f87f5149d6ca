-- The answers to the lines of `mirror`.
use Rattle.std.proofs.Common.{◌≡◌, ◌≢◌, ℕ, List, [], ◌∷◌, codes, length, Ok, Err, Bool, true, false, true≢false, IsTrue, not, refl, sym, ap, ap₂, ◌∙◌, subst, arith}
use Rattle.std.specs.Prelude.{◌↔◌, ◌==◌, ◌||◌, replicate}
use Rattle.std.specs.List.{list_any}
use Rattle.std.proofs.lemmas.Bool.Decides.{nat_tests}
use Rattle.tg_cid.specs.Cid.{CidParts}
use Rattle.tg_cid.specs.Spelling.{CidText}
use Rattle.tg_cid.specs.declared.cid.Codec.TheVariants.{Raw}
use Rattle.tg_cid.specs.declared.cid.HashKind.TheVariants.{Sha256}
use Rattle.tg_query.specs.Requests.{IsAddr}
use Rattle.tg_words.specs.Words.{Given, WordsSpelling}
use Rattle.tg_words.specs.CommandLine.{OperandLine}
use Rattle.tg_words.specs.MirrorLines.{MayRootPack, MirrorParts, mirror_names, zero_root}
use Rattle.tg_words.specs.Operands.{Exact, MirrorGiven}
use Rattle.tg_words.specs.declared.Command.TheVariants.{Mirror}
use Rattle.tg_words.specs.declared.WordsFault.TheVariants.{Usage}
use Rattle.tg_words.proofs.Known.{no_options}
use Rattle.tg_words.proofs.Positional.{Form, IsOf, the_line, three_words}

abbrev pub mirror_form : Form (List ℕ × List ℕ × List ℕ) MirrorParts
mirror_form = record { name = codes "mirror"; names = mirror_names; writing = three_words; make = Mirror; asks = λ three options. MirrorGiven three.0 three.1 three.2 }

-- ---- the root of a pack

-- whether a byte isn't zero
abbrev pub not_zero : ℕ → Bool
not_zero byte = not (byte == 0)

zero_first : (byte : ℕ) (rest : Bool) → (not_zero byte || rest) ≡ false → (byte ≡ 0) × (rest ≡ false)
zero_first byte rest none = grind (arith, nat_tests, none)

all_zero : (bytes : List ℕ) → list_any not_zero bytes ≡ false → bytes ≡ replicate {A = ℕ} (length bytes) 0
all_zero [] none = refl
all_zero (byte ∷ bytes) none =
    let both = zero_first byte (list_any not_zero bytes) none in
    ap₂ (λ (b : ℕ) (rest : List ℕ). b ∷ rest) both.0 (all_zero bytes both.1)

same_cid : (a b : CidParts) → a.version ≡ b.version → a.codec ≡ b.codec → a.hash ≡ b.hash → a.digest ≡ b.digest → a ≡ b
same_cid a b version codec hash digest =
    let s = subst (λ v. a ≡ record a { version = v }) version refl in
    let t = subst (λ c. a ≡ record a { version = b.version; codec = c }) codec s in
    let u = subst (λ h. a ≡ record a { version = b.version; codec = b.codec; hash = h }) hash t in
    subst (λ d. a ≡ record { version = b.version; codec = b.codec; hash = b.hash; digest = d }) digest u

-- a raw root whose bytes are zero isn't that of a pack
is_zero : (root : CidParts) → root.version ≡ 1 → root.hash ≡ Sha256 → length root.digest ≡ 32 → root.codec ≡ Raw → list_any not_zero root.digest ≡ false
    → MayRootPack root → ⊥
is_zero root version hash size codec none may =
    may.other (same_cid root zero_root version codec hash (all_zero root.digest none ∙ ap (λ n. replicate {A = ℕ} n 0) size))

-- a byte that isn't zero makes it another
other_digest : (root : CidParts) → root.version ≡ 1 → root.hash ≡ Sha256 → list_any not_zero root.digest ≡ true → MayRootPack root
other_digest root version hash some = record {
  version = version;
  hash = hash;
  other = λ is. true≢false (sym some ∙ ap (λ (r : CidParts). list_any not_zero r.digest) is);
}

-- whether a pack may have a raw root, by whether a byte isn't zero
pub may_by : (root : CidParts) (test : Bool) → root.version ≡ 1 → root.hash ≡ Sha256 → length root.digest ≡ 32 → root.codec ≡ Raw → test ≡ list_any not_zero root.digest
    → IsTrue test ↔ MayRootPack root
may_by root true version hash size codec is = ((λ yes. other_digest root version hash (sym is)), (λ may. refl))
may_by root false version hash size codec is = ((λ yes. absurd (true≢false (sym yes))), (λ may. absurd (is_zero root version hash size codec (sym is) may)))

-- ---- what the words ask

same_mirror : (a b : MirrorParts) → a.addr ≡ b.addr → a.root ≡ b.root → a.pack ≡ b.pack → a ≡ b
same_mirror a b addr root pack =
    let s = subst (λ d. a ≡ record a { addr = d }) addr refl in
    let t = subst (λ r. a ≡ record a { addr = b.addr; root = r }) root s in
    subst (λ p. a ≡ record { addr = b.addr; root = b.root; pack = p }) pack t

-- a root that a pack can't have is refused
pub root_refused : (addr text pack : List ℕ) (root : CidParts) → ((other : CidParts) → CidText other text → root ≡ other) → (MayRootPack root → ⊥)
    → Exact (MirrorGiven addr text pack) (Err Usage)
root_refused addr text pack root only never = record {
  found = tt;
  only = λ parts is. absurd (never (subst MayRootPack (sym (only parts.root is.root)) is.may));
}

pub mirror_found : (addr text pack : List ℕ) (parts : MirrorParts) → parts.addr ≡ addr → IsAddr addr → CidText parts.root text
    → ((other : CidParts) → CidText other text → parts.root ≡ other) → MayRootPack parts.root → parts.pack ≡ pack → pack ≢ []
    → Exact (MirrorGiven addr text pack) (Ok parts)
mirror_found addr text pack parts addr_is is_addr root only may pack_is named = record {
  found = record { addr_is = addr_is; is_addr = is_addr; root = root; may = may; pack_is = pack_is; named = named };
  only = λ other is. same_mirror parts other (addr_is ∙ sym is.addr_is) (only other.root is.root) (pack_is ∙ sym is.pack_is);
}

-- what words ask is one mirror
pub one_mirror : ((a b : CidParts) (text : List ℕ) → CidText a text → CidText b text → a ≡ b)
    → (three : List ℕ × List ℕ × List ℕ) (options : List Given) (a b : MirrorParts) → MirrorGiven three.0 three.1 three.2 a → MirrorGiven three.0 three.1 three.2 b → a ≡ b
one_mirror one_cid three options a b p q =
    same_mirror a b (p.addr_is ∙ sym q.addr_is) (one_cid a.root b.root three.1 p.root q.root) (p.pack_is ∙ sym q.pack_is)

-- a line by its operands, and the operands of a line
pub mirror_by : (rest : List (List ℕ)) (three : List ℕ × List ℕ × List ℕ) (options : List Given) (parts : MirrorParts)
    → WordsSpelling mirror_names rest (three_words.texts three) options → MirrorGiven three.0 three.1 three.2 parts → OperandLine (codes "mirror" ∷ rest) (Mirror parts)
mirror_by rest three options parts operands is = record {
  text = three.1;
  line = record {
    rest = rest;
    begins = refl;
    operands = subst (λ p. WordsSpelling mirror_names rest (parts.addr ∷ three.1 ∷ p ∷ []) []) (sym is.pack_is)
        (subst (λ a. WordsSpelling mirror_names rest (a ∷ three.1 ∷ three.2 ∷ []) []) (sym is.addr_is) (no_options rest (three_words.texts three) options operands));
  };
  addr = subst IsAddr (sym is.addr_is) is.is_addr;
  root = is.root;
  may = is.may;
  pack_named = λ none. is.named (sym is.pack_is ∙ none);
}

pub mirror_line : (rest : List (List ℕ)) (parts : MirrorParts) → OperandLine (codes "mirror" ∷ rest) (Mirror parts) → IsOf mirror_form rest (Mirror parts)
mirror_line rest parts line = record {
  parts = parts;
  words = (parts.addr, line.text, parts.pack);
  options = [];
  is = refl;
  operands = the_line (codes "mirror") mirror_names rest (parts.addr ∷ line.text ∷ parts.pack ∷ []) [] line.line;
  asked = record { addr_is = refl; is_addr = line.addr; root = line.root; may = line.may; pack_is = refl; named = line.pack_named };
}
