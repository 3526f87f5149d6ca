-- The path that a head tells is bytes of a field.
use Rattle.std.proofs.Common.{◌≡◌, ℕ, ◌<◌, Bool, true, All, List, [], ◌∷◌, ◌++◌, codes, inl, inr, refl, sym, subst, arith}
use Rattle.httparse.specs.Grammar.{AllPass, is_value_byte}
use Rattle.std.specs.List.{list_all, range_with_len}
use Rattle.std.specs.Prelude.{IsTrue}
use Rattle.std.proofs.lemmas.List.Elements.{All-append, All-cons, All-head, All-nil, All-tail, All-weaker}
use Rattle.std.proofs.lemmas.List.Sums.{AllPass-from_list_all}
use Rattle.tg_base32.specs.Base32.{IsLetter}
use Rattle.tg_bytes.specs.Lists.{AreBytes}
use Rattle.tg_cid.specs.Cid.{CidParts}
use Rattle.tg_cid.specs.Computed.{cid_text}
use Rattle.tg_cid.specs.Spelling.{CidBytes, CidText}
use Rattle.tg_escape.specs.ByteTests.{by_table}
use Rattle.tg_model.specs.Queries.{QueryParts}
use Rattle.tg_model.specs.Texts.{escaped, escaped_byte}
use Rattle.tg_query.specs.Requests.{path_text}
use Rattle.tg_reply.specs.Heads.{asked_path}

abbrev Passes : ℕ → Type 0
Passes b = IsTrue (is_value_byte b)

-- ---- escaped names

abbrev escape_passes : ℕ → Bool
escape_passes b = list_all is_value_byte (escaped_byte b)

all_escapes : list_all escape_passes (range_with_len 0 256) ≡ true
all_escapes = refl

one_escape : (b : ℕ) → b < 256 → AllPass is_value_byte (escaped_byte b)
one_escape b h = AllPass-from_list_all is_value_byte (escaped_byte b) (by_table escape_passes 256 all_escapes b h)

escaped_passes : (name : List ℕ) → AreBytes name → AllPass is_value_byte (escaped name)
escaped_passes [] are = All-nil Passes
escaped_passes (b ∷ name) are =
    All-append Passes (escaped_byte b) (escaped name) (one_escape b (All-head (λ (b : ℕ). b < 256) b name are))
    (escaped_passes name (All-tail (λ (b : ℕ). b < 256) b name are))

names_pass : (path : List (List ℕ)) → All (λ (name : List ℕ). AreBytes name) path → AllPass is_value_byte (path_text path)
names_pass [] are = All-nil Passes
names_pass (name ∷ path) are =
    All-append Passes (47 ∷ escaped name) (path_text path)
    (All-cons Passes 47 (escaped name) refl (escaped_passes name (All-head (λ (name : List ℕ). AreBytes name) name path are)))
    (names_pass path (All-tail (λ (name : List ℕ). AreBytes name) name path are))

-- ---- the root

letter_passes : (b : ℕ) → IsLetter b → Passes b
letter_passes b (inl h) = grind (arith, h)
letter_passes b (inr h) = grind (arith, h)

root_passes : (root : CidParts) (text : List ℕ) → CidText root text → AllPass is_value_byte text
root_passes root text h =
    subst (AllPass is_value_byte) (sym h.in_base.begins)
    (All-cons Passes 98 h.in_base.letters refl (All-weaker IsLetter Passes letter_passes h.in_base.letters h.in_base.rest.letters))

pub path_passes : ((cid : CidParts) (bytes : List ℕ) → CidBytes cid bytes → CidText (record cid { version = 1 }) (cid_text cid))
    → (q : QueryParts) (name : List ℕ) → CidBytes q.root name → All (λ (name : List ℕ). AreBytes name) q.path → AllPass is_value_byte (asked_path q)
path_passes texts q name h are =
    All-append Passes (codes "/ipfs/") (cid_text q.root ++ path_text q.path) (AllPass-from_list_all is_value_byte (codes "/ipfs/") refl)
    (All-append Passes (cid_text q.root) (path_text q.path) (root_passes (record q.root { version = 1 }) (cid_text q.root) (texts q.root name h)) (names_pass q.path are))
