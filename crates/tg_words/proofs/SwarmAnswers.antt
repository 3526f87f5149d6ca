-- The answers to the lines of `swarm`.
use Rattle.std.proofs.Common.{◌≡◌, Ok, Err, Bool, false, ℕ, suc, zero, ◌+◌, ◌<◌, ◌≤◌, List, [], ◌∷◌, ◌++◌, codes, length, map, take, slice_index_or, All, Bor, refl, sym, ◌∙◌, subst, ap, ap₂, arith}
use Rattle.std.proofs.lemmas.List.{get_or-map, length-map, map-append, take_more}
use Rattle.std.proofs.lemmas.List.Elements.{All-append, All-get_or}
use Rattle.std.specs.Prelude.{Result, ◌==◌}
use Rattle.std.proofs.lemmas.Bool.Decides.{nat_tests}
use Rattle.tg_cid.specs.Cid.{CidParts}
use Rattle.tg_cid.specs.Spelling.{CidText}
use Rattle.tg_query.specs.Requests.{IsAddr}
use Rattle.tg_words.specs.Words.{Given, WordsSpelling}
use Rattle.tg_words.specs.CommandLine.{OperandLine}
use Rattle.tg_words.specs.Operands.{Exact, NumberGiven, SwarmGiven, texts_of, value_at}
use Rattle.tg_words.specs.SwarmLines.{SwarmParts, swarm_names}
use Rattle.tg_words.specs.declared.Command.TheVariants.{Swarm}
use Rattle.tg_words.specs.declared.WordsFault.{WordsFault}
use Rattle.tg_words.specs.declared.WordsFault.TheVariants.{OutOfMemory}
use Rattle.tg_words.proofs.ImportAnswers.{asked_by, given_by, one_number}
use Rattle.tg_words.proofs.Options.{have_values}
use Rattle.tg_words.proofs.Positional.{Form, IsOf, many_words, the_line}

abbrev pub swarm_form : Form (List (List ℕ)) SwarmParts
swarm_form = record { name = codes "swarm"; names = swarm_names; writing = many_words; make = Swarm; asks = SwarmGiven }

same_swarm : (a b : SwarmParts) → a.root ≡ b.root → a.addrs ≡ b.addrs → a.part ≡ b.part → a ≡ b
same_swarm a b root addrs part =
    let s = subst (λ r. a ≡ record a { root = r }) root refl in
    let t = subst (λ xs. a ≡ record a { root = b.root; addrs = xs }) addrs s in
    subst (λ n. a ≡ record { root = b.root; addrs = b.addrs; part = n }) part t

first_are : (text other : List ℕ) (texts others : List (List ℕ)) → text ∷ texts ≡ other ∷ others → (text ≡ other) × (texts ≡ others)
first_are text other texts others same = let first : text ≡ other = cc in let rest : texts ≡ others = cc in (first, rest)

-- what words and options ask is one swarm
pub one_swarm : ((a b : CidParts) (text : List ℕ) → CidText a text → CidText b text → a ≡ b)
    → (texts : List (List ℕ)) (options : List Given) (a b : SwarmParts) → SwarmGiven texts options a → SwarmGiven texts options b → a ≡ b
one_swarm one_cid texts options a b p q =
    let same = first_are p.text q.text a.addrs b.addrs (sym p.texts_are ∙ q.texts_are) in
    same_swarm a b (one_cid a.root b.root p.text p.root (subst (λ t. CidText b.root t) (sym same.0) q.root)) same.1
    (one_number (value_at options (codes "part")) 1 16777216 4194304 a.part b.part p.part q.part)

-- ---- what is asked by a text and the texts behind it

pub record SwarmBy (text : List ℕ) (texts : List (List ℕ)) (options : List Given) (parts : SwarmParts) : Type 0 where
  pub root : CidText parts.root text
  pub addrs_are : parts.addrs ≡ texts
  pub are_addrs : All IsAddr texts
  pub some : 1 ≤ length texts
  pub most : length texts ≤ 16
  pub part : NumberGiven (value_at options (codes "part")) 1 16777216 4194304 parts.part

swarm_asked : (all : List (List ℕ)) (text : List ℕ) (texts : List (List ℕ)) (options : List Given) (parts : SwarmParts) → all ≡ text ∷ texts
    → SwarmGiven all options parts → SwarmBy text texts options parts
swarm_asked all text texts options parts is given =
    let same = first_are given.text text parts.addrs texts (sym given.texts_are ∙ is) in
    record {
      root = subst (λ t. CidText parts.root t) same.0 given.root;
      addrs_are = same.1;
      are_addrs = subst (All IsAddr) same.1 given.addrs;
      some = subst (λ (xs : List (List ℕ)). 1 ≤ length xs) same.1 given.some;
      most = subst (λ (xs : List (List ℕ)). length xs ≤ 16) same.1 given.most;
      part = given.part;
    }

swarm_given : (all : List (List ℕ)) (text : List ℕ) (texts : List (List ℕ)) (options : List Given) (parts : SwarmParts) → all ≡ text ∷ texts
    → SwarmBy text texts options parts → SwarmGiven all options parts
swarm_given all text texts options parts is by = record {
  text = text;
  texts_are = is ∙ ap (λ xs. text ∷ xs) (sym by.addrs_are);
  root = by.root;
  addrs = subst (All IsAddr) (sym by.addrs_are) by.are_addrs;
  some = subst (λ (xs : List (List ℕ)). 1 ≤ length xs) (sym by.addrs_are) by.some;
  most = subst (λ (xs : List (List ℕ)). length xs ≤ 16) (sym by.addrs_are) by.most;
  part = by.part;
}

-- what is refused
pub swarm_refused : (all : List (List ℕ)) (text : List ℕ) (texts : List (List ℕ)) (options : List Given) (e : WordsFault) → all ≡ text ∷ texts
    → ((parts : SwarmParts) → SwarmBy text texts options parts → e ≡ OutOfMemory) → Exact (SwarmGiven all options) (Err e)
swarm_refused all text texts options e is only = record { found = tt; only = λ parts given. only parts (swarm_asked all text texts options parts is given) }

pub swarm_found : (all : List (List ℕ)) (text : List ℕ) (texts : List (List ℕ)) (options : List Given) (parts : SwarmParts) → all ≡ text ∷ texts
    → CidText parts.root text → ((other : CidParts) → CidText other text → parts.root ≡ other) → parts.addrs ≡ texts → All IsAddr texts → 1 ≤ length texts → length texts ≤ 16
    → Exact (NumberGiven (value_at options (codes "part")) 1 16777216 4194304) (Ok parts.part) → Exact (SwarmGiven all options) (Ok parts)
swarm_found all text texts options parts is root only addrs_are are_addrs some most part = record {
  found = swarm_given all text texts options parts is (record { root = root; addrs_are = addrs_are; are_addrs = are_addrs; some = some; most = most; part = part.found });
  only = λ other given.
      let by = swarm_asked all text texts options other is given in
      same_swarm parts other (only other.root by.root) (addrs_are ∙ sym by.addrs_are) (part.only other.part by.part);
}

-- the same of words that are these
pub swarm_at : (texts others : List (List ℕ)) (options : List Given) (answer : Result SwarmParts WordsFault) → texts ≡ others
    → Exact (SwarmGiven texts options) answer → Exact (SwarmGiven others options) answer
swarm_at texts others options answer is exact = subst (λ words. Exact (SwarmGiven words options) answer) is exact

-- how many texts there are
pub count_of : (words : List (Bor (List ℕ))) (empty : Bool) → empty ≡ (length words == 0) → empty ≡ false → length words ≤ 16
    → (1 ≤ length (texts_of words)) × (length (texts_of words) ≤ 16)
count_of words empty is fails most =
    let same = length-map words (λ (t : Bor (List ℕ)). t.now) in
    let some : 1 ≤ length words = grind (arith, nat_tests, is, fails) in
    (omega (arith, same, some), omega (arith, same, most))

-- ---- words as addresses

one_addr : (text : List ℕ) → IsAddr text → All IsAddr (text ∷ [])
one_addr text is zero d below = is
one_addr text is (suc k) d below = absurd (omega (arith, below))

-- one more address behind those so far
pub one_addr_more : {S : Type 0} (bytes : S → List ℕ) (words : List (Bor (List ℕ))) (i : ℕ) (d : Bor (List ℕ)) (addrs more : List S) (addr : S) → i < length words
    → (map bytes addrs ≡ texts_of (take i words)) × All IsAddr (texts_of (take i words)) → more ≡ addrs ++ addr ∷ [] → bytes addr ≡ (slice_index_or words i d).now
    → IsAddr (slice_index_or words i d).now → (map bytes more ≡ texts_of (take (i + 1) words)) × All IsAddr (texts_of (take (i + 1) words))
one_addr_more bytes words i d addrs more addr below so_far more_is addr_is is =
    let text = (slice_index_or words i d).now in
    let texts : texts_of (take (i + 1) words) ≡ texts_of (take i words) ++ text ∷ [] =
    ap texts_of (take_more words i d below) ∙ map-append (λ (t : Bor (List ℕ)). t.now) (take i words) (slice_index_or words i d ∷ []) in (
      ap (map bytes) more_is ∙ map-append bytes addrs (addr ∷ []) ∙ ap₂ (λ xs x. xs ++ x ∷ []) so_far.0 addr_is ∙ sym texts,
      subst (All IsAddr) (sym texts) (All-append IsAddr (texts_of (take i words)) (text ∷ []) so_far.1 (one_addr text is)),
    )

-- each of the words is an address where their texts are
pub addr_at : (words : List (Bor (List ℕ))) (i : ℕ) (d : Bor (List ℕ)) → i < length words → All IsAddr (texts_of words) → IsAddr (slice_index_or words i d).now
addr_at words i d below all =
    subst IsAddr (get_or-map (λ (t : Bor (List ℕ)). t.now) words i d d.now below)
    (All-get_or IsAddr (texts_of words) i d.now (subst (λ n. i < n) (sym (length-map words (λ (t : Bor (List ℕ)). t.now))) below) all)

-- a line by its operands, and the operands of a line
pub swarm_by : (rest words : List (List ℕ)) (options : List Given) (parts : SwarmParts) → WordsSpelling swarm_names rest words options
    → SwarmGiven words options parts → OperandLine (codes "swarm" ∷ rest) (Swarm parts)
swarm_by rest words options parts operands is = record {
  text = is.text;
  options = options;
  line = record { rest = rest; begins = refl; operands = subst (λ ws. WordsSpelling swarm_names rest ws options) is.texts_are operands };
  root = is.root;
  addrs = is.addrs;
  some = is.some;
  most = is.most;
  part = asked_by options (codes "part") 1 16777216 4194304 parts.part (have_values swarm_names.valued rest words options operands) is.part;
}

pub swarm_line : (rest : List (List ℕ)) (parts : SwarmParts) → OperandLine (codes "swarm" ∷ rest) (Swarm parts) → IsOf swarm_form rest (Swarm parts)
swarm_line rest parts line =
    let operands = the_line (codes "swarm") swarm_names rest (line.text ∷ parts.addrs) line.options line.line in
    record {
      parts = parts;
      words = line.text ∷ parts.addrs;
      options = line.options;
      is = refl;
      operands = operands;
      asked = record {
        text = line.text;
        texts_are = refl;
        root = line.root;
        addrs = line.addrs;
        some = line.some;
        most = line.most;
        part = given_by line.options (codes "part") 1 16777216 4194304 parts.part operands.once line.part;
      };
    }
