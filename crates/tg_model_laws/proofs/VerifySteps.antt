-- A verifier's sections, one after another.
use Rattle.std.proofs.Common.{◌≡◌, ◌≢◌, ◌⊎◌, ℕ, Bool, true, false, List, [], ◌∷◌, ◌++◌, Contains, inl, inr, ⊎_elim, length, length-append, map, refl, sym, ap, ◌∙◌, append_assoc, append-nil, subst, arith}
use Rattle.std.proofs.lemmas.List.{append_cancel_left, map-append}
use Rattle.std.proofs.lemmas.List.Elements.{Contains-append_left, Contains-append_right, Contains-push_cases}
use Rattle.tg_cid.specs.Cid.{CidParts}
use Rattle.tg_cid.specs.Names.{Names}
use Rattle.tg_cid.specs.declared.cid.HashKind.TheVariants.{Identity, Sha256}
use Rattle.tg_model_laws.specs.NamedBlocks.{checked_named, identity_block}
use Rattle.tg_model_laws.specs.Openings.{IsSettledAt}
use Rattle.tg_model_laws.specs.PartialDags.{AreFollowed, AreOpenedFrom, MeetEntries, SayTexts}
use Rattle.tg_model_laws.specs.SentSections.{asked_behind, new_behind, not_among, once, once_behind, sent_asked, sent_behind, sent_held, sent_more, sent_step, taken_as, taken_if}
use Rattle.tg_model.specs.Dag.{Dag, Section, blocks, links_of, root_cid}
use Rattle.tg_model.specs.Fits.{CollisionPair, Fits, HasOneBlockEach, IfOnce, IsInProgress, IsOpenedFor, output_so_far}
use Rattle.tg_model.specs.PathWalk.{Spot, TraversalEnd, gone, stopped, whole}
use Rattle.tg_model.specs.Queries.{QueryParts}
use Rattle.tg_model.specs.Sound.{IsSound, top}
use Rattle.tg_model.specs.Traversal.{ListedEntry, Place, Traversal, block_list, is_asked, is_sent_behind, opened_list, sections_of, sent, traversal, unrepeated}
use Rattle.tg_model.specs.declared.kinds.Kind.{Kind}
use Rattle.tg_model_laws.proofs.OpeningSteps.{opened_more}
use Rattle.tg_model_laws.proofs.Outputs.{nowhere_text, whole_is, written_is, written_stopped}
use Rattle.tg_model_laws.specs.BesideSound.{BesideLaws, IsBeside, Passes, PassesIf}
use Rattle.tg_model_laws.specs.TakenBlocks.{IsReadAt, OpeningLaws, Shows, end_now, opened_by}
use Rattle.tg_model_laws.specs.Stages.{Given, ending, nothing_given, up_to_next, with_place}
use Rattle.tg_model_laws.specs.Tasks.{Miss, Task, Want, give_entries, give_text, is_read_at, no_directory, no_entry, open_block, position_of, spot_of, start, stop_at, stop_of, tasks_of, tasks_then, text_at}
use Rattle.tg_model_laws.specs.Verified.{AreSettled, GoesOn, IsAccepted, IsHad, IsKnown, IsKnownIf, IsOther, IsOwnBlock, LeadsNowhere, Then, Verified, WantsAt, WantsNext, then_block, then_none, then_stop, written_whole}

-- ---- sections that are sent

starts_sent : (q : QueryParts) → sent q [] ≡ []
starts_sent q = by q.dups
  where
    by : (dups : Bool) → unrepeated dups [] ≡ []
    by true = refl
    by false = refl

none_each : (dups : Bool) → IfOnce dups (HasOneBlockEach [])
none_each true = tt
none_each false = λ a b (k, less, is) in_b e. absurd (omega (arith, less))

-- a pair of some sections is one of all that hold them
pub pair_of : (some sections : List Section) (d : Dag) → ((section : Section) → Contains some section → Contains sections section) → CollisionPair some d → CollisionPair sections d
pair_of some sections d h p = record {
  received = p.received;
  held = p.held;
  is_received = h p.received p.is_received;
  is_held = p.is_held;
  same_cid = p.same_cid;
  kind = p.kind;
  differ = p.differ;
  same_hash = p.same_hash;
}

-- sections that are had are so among more
had_too : (sections more : List Section) (x : Section) → ((section : Section) → Contains sections section → Contains more section) → IsHad sections x → IsHad more x
had_too sections more x h (inl within) = inl (h x within)
had_too sections more x h (inr own) = inr own

-- a pair of sections that are had is one of those that hold them: a block that is its CID's digest is in no pair
pub pair_had : (some sections : List Section) (d : Dag) → ((section : Section) → Contains some section → IsHad sections section) → CollisionPair some d → CollisionPair sections d
pair_had some sections d h p = record {
  received = p.received;
  held = p.held;
  is_received = elim (h p.received p.is_received) [
    | inl within ↦ within
    | inr own ↦ let both : Sha256 ≡ Identity = sym p.kind ∙ own.0 in absurd (cc both)
  ];
  is_held = p.is_held;
  same_cid = p.same_cid;
  kind = p.kind;
  differ = p.differ;
  same_hash = p.same_hash;
}

-- a named block of the CID of one that is its digest is this one
own_again : (x section : Section) → x.cid ≡ section.cid → Names x.cid x.block → IsOwnBlock section → x.block ≡ section.block
own_again x section e named own =
    identity_block x.cid x.block (ap (λ (cid : CidParts). cid.hash) e ∙ own.0) named ∙ ap (λ (cid : CidParts). cid.digest) e ∙ sym own.1

-- a block that passes is named
passes_named : (reads : Bool) (w : Want) (x : Section) → PassesIf reads w x → Names x.cid x.block
passes_named true w x h = h.1.named
passes_named false w x h = h

-- a list of one section has that one
one_alone : (section x : Section) → Contains (section ∷ []) x → section ≡ x
one_alone section x c = elim (Contains-push_cases [] section x c) [ inl none ↦ absurd (omega (arith, none.1)) | inr same ↦ same ]

-- ---- how tasks go on

then_text : (text : List ℕ) (tasks : List (Task CidParts)) → Then tasks → Then (give_text text ∷ tasks)
then_text text tasks (then_none e) = then_none e
then_text text tasks (then_block w cid more e) = then_block w cid more e
then_text text tasks (then_stop miss more e) = then_stop miss more e

then_entries : (met : List ListedEntry) (tasks : List (Task CidParts)) → Then tasks → Then (give_entries met ∷ tasks)
then_entries met tasks (then_none e) = then_none e
then_entries met tasks (then_block w cid more e) = then_block w cid more e
then_entries met tasks (then_stop miss more e) = then_stop miss more e

pub how_then : (tasks : List (Task CidParts)) → Then tasks
how_then [] = then_none refl
how_then (open_block w cid ∷ tasks) = then_block w cid tasks refl
how_then (give_text text ∷ tasks) = then_text text tasks (how_then tasks)
how_then (give_entries met ∷ tasks) = then_entries met tasks (how_then tasks)
how_then (stop_at miss ∷ tasks) = then_stop miss tasks refl

-- a traversal that gives just this opens just this
opens_just : (q : QueryParts) (d : Dag) (given : Given) (end : TraversalEnd) → traversal q d ≡ ending given end → opened_list q d ≡ opened_by given
opens_just q d given end e = ap (λ (t : Traversal). map (λ p. p.section) t.places) e

no_more : (q : QueryParts) (d : Dag) (given : Given) (end : TraversalEnd) (section : Section) (rest : List Section) → traversal q d ≡ ending given end
    → opened_list q d ≡ opened_by given ++ section ∷ rest → ⊥
no_more q d given end section rest e l =
    let none : section ∷ rest ≡ [] =
    append_cancel_left (opened_by given) (section ∷ rest) [] (sym l ∙ opens_just q d given end e ∙ sym (append-nil (opened_by given))) in
    absurd (cc none)

-- ---- from section to section

module _ (o : OpeningLaws) (b : BesideLaws) where
  pub verified_starts : (q : QueryParts) → Verified q [] nothing_given (start q q.root)
  verified_starts q = record {
    sent_are = starts_sent q;
    received = λ section c. inl c;
    one_each = none_each q.dups;
    opening = o.start q;
    beside = λ d rest checked root l. b.start q d checked root;
    opens = λ d rest other l. (opened_list q d, refl);
  }

  pub verified_gives : (q : QueryParts) (sections : List Section) (given : Given) (tasks : List (Task CidParts)) → Verified q sections given tasks
      → Verified q sections (up_to_next tasks given) (tasks_then tasks)
  verified_gives q sections given tasks v = record {
    sent_are = v.sent_are;
    received = v.received;
    one_each = v.one_each;
    opening = o.up_to_next q given tasks v.opening;
    beside = λ d rest checked root l. b.up_to_next q d given tasks (v.beside d rest checked root l);
    opens = v.opens;
  }

  module _ (q : QueryParts) (sections : List Section) (given : Given) (w : Want) (section : Section) (tasks : List (Task CidParts)) (known : IsKnown q sections section)
      (v : Verified q sections given (open_block w section.cid ∷ tasks)) where
    one_more : (text : List ℕ) → sent q (opened_by (with_place w section text given)) ≡ taken_as q sections section
    one_more text = ap (sent q) (opened_more given w section text) ∙ sent_step q (opened_by given) section ∙ ap (λ (some : List Section). taken_as q some section) v.sent_are

    behind_it : (d : Dag) (text : List ℕ) (rest : List Section) → opened_list q d ≡ opened_by (with_place w section text given) ++ rest → opened_list q d ≡ opened_by given ++ section ∷ rest
    behind_it d text rest l = l ∙ ap (λ (some : List Section). some ++ rest) (opened_more given w section text) ∙ append_assoc (opened_by given) (section ∷ []) rest

    -- it is taken, or was had before
    taken_too : (sends : Bool) → is_sent_behind q sections section.cid ≡ sends → IsKnownIf sends sections section → IsHad (taken_if sends sections section) section
    taken_too true e h = inl (Contains-append_right sections (section ∷ []) section (0, omega arith, refl))
    taken_too false e h = h

    still_taken : (sends : Bool) (other : Section) → Contains sections other → Contains (taken_if sends sections section) other
    still_taken true other h = Contains-append_left sections (section ∷ []) other h
    still_taken false other h = h

    received_more : (text : List ℕ) (other : Section) → Contains (opened_by (with_place w section text given)) other → IsHad (taken_as q sections section) other
    received_more text other c = elim (Contains-push_cases (opened_by given) section other (subst (λ (some : List Section). Contains some other) (opened_more given w section text) c)) [
      | inl before ↦ had_too sections (taken_as q sections section) other (still_taken (is_sent_behind q sections section.cid)) (v.received other before)
      | inr same ↦ subst (IsHad (taken_as q sections section)) same (taken_too (is_sent_behind q sections section.cid) refl known)
    ]

    -- the opened blocks are named
    opened_named : (x : Section) → Contains (opened_by given) x → Names x.cid x.block
    opened_named x c =
        let shows = o.shows q given (open_block w section.cid ∷ tasks) v.one_each v.opening in
        let mine = opens_just q shows.s (up_to_next (open_block w section.cid ∷ tasks) given) (end_now (open_block w section.cid ∷ tasks)) shows.gives in
        checked_named top shows.s shows.opened.checked x (subst (λ (some : List Section). Contains some x) (sym (shows.opened.opened ∙ mine)) c)

    -- a section that was received is asked for
    received_asked : (x : Section) → Contains sections x → is_asked q x.cid ≡ true
    received_asked x within = sent_asked q (opened_by given) x (subst (λ (some : List Section). Contains some x) (sym v.sent_are) within)

    -- one block stands under each CID, as before: none of the others has the CID of a section that is sent, one that isn't is
    -- one of them, or its block is its digest, as theirs are under its CID
    each_known : HasOneBlockEach (opened_by given) → ((x : Section) → Contains (opened_by given) x → x.cid ≡ section.cid → x.block ≡ section.block)
        → HasOneBlockEach (opened_by given ++ section ∷ [])
    each_known one same a b in_a in_b e = elim (Contains-push_cases (opened_by given) section a in_a) [
      | inl a_before ↦ elim (Contains-push_cases (opened_by given) section b in_b) [
        | inl b_before ↦ one a b a_before b_before e
        | inr b_is ↦ same a a_before (e ∙ ap (λ (x : Section). x.cid) (sym b_is)) ∙ ap (λ (x : Section). x.block) b_is
      ]
      | inr a_is ↦ elim (Contains-push_cases (opened_by given) section b in_b) [
        | inl b_before ↦ ap (λ (x : Section). x.block) (sym a_is) ∙ sym (same b b_before (sym e ∙ ap (λ (x : Section). x.cid) (sym a_is)))
        | inr b_is ↦ ap (λ (x : Section). x.block) (sym a_is ∙ b_is)
      ]
    ]

    had_once : HasOneBlockEach (opened_by given) → IsHad sections section → (x : Section) → Contains (opened_by given) x → x.cid ≡ section.cid → x.block ≡ section.block
    had_once one (inl within) x c e =
        one x section c (sent_held q (opened_by given) section (subst (λ (some : List Section). Contains some section) (sym v.sent_are) within)) e
    had_once one (inr own) x c e = own_again x section e (opened_named x c) own

    one_each_by : (dups : Bool) → q.dups ≡ dups → (sends : Bool) → is_sent_behind q sections section.cid ≡ sends → IsKnownIf sends sections section → IfOnce dups (HasOneBlockEach (opened_by given))
        → IfOnce dups (HasOneBlockEach (opened_by given ++ section ∷ []))
    one_each_by true e sends f h one = tt
    one_each_by false e false f h one = each_known one (had_once one h)
    one_each_by false e true f h one =
        let there : is_sent_behind q (opened_by given) section.cid ≡ true =
        sym (sent_behind q (opened_by given) section.cid) ∙ ap (λ (some : List Section). is_sent_behind q some section.cid) v.sent_are ∙ f in
        let new = subst (λ (dups : Bool). IfOnce dups ((x : Section) → Contains (opened_by given) x → x.cid ≢ section.cid)) e (new_behind q (opened_by given) section.cid there) in
        each_known one (λ x c same. absurd (new x c same))

    one_each_more : (text : List ℕ) → IfOnce q.dups (HasOneBlockEach (opened_by (with_place w section text given)))
    one_each_more text =
        subst (λ (some : List Section). IfOnce q.dups (HasOneBlockEach some)) (sym (opened_more given w section text))
        (one_each_by q.dups refl (is_sent_behind q sections section.cid) refl known v.one_each)

    -- a DAG whose sections begin so opens this place with this block
    sections_then : (d : Dag) (rest : List Section) → block_list q d ≡ taken_as q sections section ++ rest → (more : List Section) × (block_list q d ≡ sections ++ more)
    sections_then d rest l = by (is_sent_behind q sections section.cid) l
      where
        by : (sends : Bool) → block_list q d ≡ taken_if sends sections section ++ rest → (more : List Section) × (block_list q d ≡ sections ++ more)
        by true l = (section ∷ rest, l ∙ append_assoc sections (section ∷ []) rest)
        by false l = (rest, l)

    -- where its next block is of the wanted CID, it is this one
    same_next : (d : Dag) (rest more : List Section) (x : Section) → IsOther q d → block_list q d ≡ taken_as q sections section ++ rest → opened_list q d ≡ opened_by given ++ x ∷ more
        → x.cid ≡ section.cid → Names x.cid x.block → x ≡ section
    same_next d rest more x other l all cids named = by (is_sent_behind q sections section.cid) refl known l
      where
        first : (some others : List Section) → Contains (some ++ x ∷ others) x
        first some others = Contains-append_right some (x ∷ others) x (0, omega arith, refl)

        by : (sends : Bool) → is_sent_behind q sections section.cid ≡ sends → IsKnownIf sends sections section → block_list q d ≡ taken_if sends sections section ++ rest → x ≡ section
        by true e h l =
            let new : is_sent_behind q (opened_by given) x.cid ≡ true =
            sym (sent_behind q (opened_by given) x.cid) ∙ ap (λ (some : List Section). is_sent_behind q some x.cid) v.sent_are ∙ ap (is_sent_behind q sections) cids ∙ e in
            let sends = sent_more q (opened_by given) more x new in
            let lists : sections ++ x ∷ sends.0 ≡ sections ++ section ∷ rest =
            ap (λ (some : List Section). some ++ x ∷ sends.0) (sym v.sent_are) ∙ sym sends.1 ∙ ap (sent q) (sym all) ∙ l ∙ append_assoc sections (section ∷ []) rest in
            let tails : x ∷ sends.0 ≡ section ∷ rest = append_cancel_left sections (x ∷ sends.0) (section ∷ rest) lists in
            cc
        by false e (inl within) l =
            let each_once : q.dups ≡ false = once_behind q sections section.cid (received_asked section within) e in
            let one : HasOneBlockEach (opened_list q d) = once q.dups (HasOneBlockEach (opened_list q d)) each_once other.one_each in
            let there : Contains (opened_list q d) section =
            sent_held q (opened_list q d) section (subst (λ (some : List Section). Contains some section) (sym l) (Contains-append_left sections rest section within)) in
            let mine : Contains (opened_list q d) x = subst (λ (some : List Section). Contains some x) (sym all) (first (opened_by given) more) in
            let block : x.block ≡ section.block = one x section mine there cids in
            λ i. record { cid = cids i; block = block i }
        by false e (inr own) l =
            let block : x.block ≡ section.block = own_again x section cids named own in
            λ i. record { cid = cids i; block = block i }

    opens_by : (d : Dag) (rest more : List Section) → IsOther q d → block_list q d ≡ taken_as q sections section ++ rest → opened_list q d ≡ opened_by given ++ more
        → (others : List Section) × (opened_list q d ≡ opened_by given ++ section ∷ others)
    opens_by d rest [] other l all =
        let beside = v.beside d [] other.checked other.root all in
        let stops = b.stops q d given w section.cid tasks (all ∙ append-nil (opened_by given)) beside in
        let settled : is_sent_behind q (block_list q d) section.cid ≡ true = subst (IsSettledAt q (block_list q d)) (ap (λ (t : Traversal). t.end) stops) other.settled in
        let list : block_list q d ≡ sections = ap (sent q) (all ∙ append-nil (opened_by given)) ∙ v.sent_are in
        absurd (not_more (ap (λ (some : List Section). is_sent_behind q some section.cid) (sym list) ∙ settled) (sym list ∙ l))
      where
        not_more : is_sent_behind q sections section.cid ≡ true → sections ≡ taken_as q sections section ++ rest → ⊥
        not_more e f =
            let whole : sections ≡ (sections ++ section ∷ []) ++ rest = f ∙ ap (λ (sends : Bool). taken_if sends sections section ++ rest) e in
            omega (arith, ap length whole, length-append (sections ++ section ∷ []) rest, length-append sections (section ∷ []))
    opens_by d rest (x ∷ more) other l all =
        let beside = v.beside d (x ∷ more) other.checked other.root all in
        let passes = b.passes q d given w section.cid tasks x more all beside in
        let same : x ≡ section = same_next d rest more x other l all passes.0 (passes_named (is_read_at q w) w x passes.1) in
        (more, all ∙ ap (λ (y : Section). opened_by given ++ y ∷ more) same)

    opens_more : (text : List ℕ) (d : Dag) (rest : List Section) → IsOther q d → block_list q d ≡ taken_as q sections section ++ rest
        → (more : List Section) × (opened_list q d ≡ opened_by (with_place w section text given) ++ more)
    opens_more text d rest other l =
        let before = sections_then d rest l in
        let opened = v.opens d before.0 other before.1 in
        let here = opens_by d rest opened.0 other l opened.1 in (
          here.0,
          here.1 ∙ sym (append_assoc (opened_by given) (section ∷ []) here.0) ∙ ap (λ (some : List Section). some ++ here.0) (sym (opened_more given w section text)),
        )

    pub verified_takes : (kind : Kind) → is_read_at q w ≡ true → IsReadAt (position_of w) section kind
        → Verified q (taken_as q sections section) (with_place w section (text_at q w section kind) given) (tasks_of q w section kind (links_of kind) ++ tasks)
    verified_takes kind reads here = record {
      sent_are = one_more (text_at q w section kind);
      received = received_more (text_at q w section kind);
      one_each = one_each_more (text_at q w section kind);
      opening = o.opened q given w section kind tasks reads here v.opening;
      beside = λ d rest checked root l.
          let all = behind_it d (text_at q w section kind) rest l in
          b.goes_on q d given w section kind tasks rest all reads here.reads (v.beside d (section ∷ rest) checked root all);
      opens = opens_more (text_at q w section kind);
    }

    pub verified_takes_alone : is_read_at q w ≡ false → Names section.cid section.block → Verified q (taken_as q sections section) (with_place w section section.block given) tasks
    verified_takes_alone unread named = record {
      sent_are = one_more section.block;
      received = received_more section.block;
      one_each = one_each_more section.block;
      opening = o.alone q given w section tasks unread named v.opening;
      beside = λ d rest checked root l.
          let all = behind_it d section.block rest l in
          b.goes_on_alone q d given w section tasks rest all unread (v.beside d (section ∷ rest) checked root all);
      opens = opens_more section.block;
    }

  -- ---- what the sections are

  -- what was sent of a DAG whose places are these
  list_is : (q : QueryParts) (sections : List Section) (given : Given) (tasks : List (Task CidParts)) (s : Dag) (end : TraversalEnd) → Verified q sections given tasks
      → traversal q s ≡ ending given end → block_list q s ≡ sections
  list_is q sections given tasks s end v e = ap (λ (t : Traversal). sent q (sections_of t.places)) e ∙ v.sent_are

  -- nothing comes before the next place
  abbrev with_nothing : Given → Given
  with_nothing given = record { places = given.places; text = given.text ++ []; met = given.met ++ [] }

  same_given : (given : Given) → with_nothing given ≡ given
  same_given given i = record { places = given.places; text = append-nil given.text i; met = append-nil given.met i }

  pub verified_goes : (q : QueryParts) (sections : List Section) (given : Given) (w : Want) (cid : CidParts) (tasks : List (Task CidParts))
      → is_sent_behind q sections cid ≡ true → Verified q sections given (open_block w cid ∷ tasks) → GoesOn q sections given (spot_of w cid)
  verified_goes q sections given w cid tasks new v =
      let shows : Shows q (with_nothing given) (open_block w cid ∷ tasks) = o.shows q given (open_block w cid ∷ tasks) v.one_each v.opening in
      let gives : traversal q shows.s ≡ ending given (stopped (gone (spot_of w cid))) = shows.gives ∙ ap (λ (given : Given). ending given (stopped (gone (spot_of w cid)))) (same_given given) in
      record {
        s = shows.s;
        progress = record {
          right = shows.opened;
          list = list_is q sections given (open_block w cid ∷ tasks) shows.s (stopped (gone (spot_of w cid))) v gives;
          end = ap (λ (t : Traversal). t.end) gives;
          asked = asked_behind q sections cid new;
          not_seen = new_behind q sections cid new;
        };
        gives = gives;
        output = written_stopped q shows.s given (gone (spot_of w cid)) gives;
      }

  pub verified_misses : (q : QueryParts) (sections : List Section) (given : Given) (miss : Miss) (tasks : List (Task CidParts)) → Verified q sections given (stop_at miss ∷ tasks)
      → LeadsNowhere q sections given miss
  verified_misses q sections given miss tasks v =
      let shows : Shows q (with_nothing given) (stop_at miss ∷ tasks) = o.shows q given (stop_at miss ∷ tasks) v.one_each v.opening in
      let gives : traversal q shows.s ≡ ending given (stopped (stop_of miss)) = shows.gives ∙ ap (λ (given : Given). ending given (stopped (stop_of miss))) (same_given given) in
      record {
        s = shows.s;
        right = shows.opened;
        list = list_is q sections given (stop_at miss ∷ tasks) shows.s (stopped (stop_of miss)) v gives;
        gives = gives;
        output = written_stopped q shows.s given (stop_of miss) gives;
        nothing = nowhere_text q shows.s given miss gives;
      }

  module _ (say : SayTexts) (meet : MeetEntries) where
    pub verified_fits : (q : QueryParts) (sections : List Section) (given : Given) → Verified q sections given [] → IsAccepted q sections given
    verified_fits q sections given v =
        let shows : Shows q (with_nothing given) [] = o.shows q given [] v.one_each v.opening in
        let gives : traversal q shows.s ≡ ending given whole = shows.gives ∙ ap (λ (given : Given). ending given whole) (same_given given) in
        record {
          s = shows.s;
          fits = record {
            right = shows.opened;
            list = list_is q sections given [] shows.s whole v gives;
            end = ap (λ (t : Traversal). t.end) gives;
            text = sym (whole_is say meet q shows.s given shows.opened gives);
          };
          gives = gives;
          output = written_is say meet q shows.s given shows.opened gives;
        }

  -- ---- beside a sound DAG

  pub verified_beside : AreOpenedFrom → AreFollowed → (q : QueryParts) (d : Dag) (sections : List Section) (given : Given) (tasks : List (Task CidParts)) → IsSound d → root_cid d ≡ q.root
      → Verified q sections given tasks → IsBeside q d given tasks ⊎ CollisionPair sections d
  verified_beside opened_from followed q d sections given tasks sound root v =
      let shows : Shows q (up_to_next tasks given) (tasks_then tasks) = o.shows q given tasks v.one_each v.opening in
      let mine : opened_list q shows.s ≡ opened_by given = opens_just q shows.s (up_to_next tasks given) (end_now (tasks_then tasks)) shows.gives in
      ⊎_elim
      (λ from. ⊎_elim
      (λ same. inl (v.beside d [] sound.checked root (sym (ap (λ (t : Traversal). map (λ p. p.section) t.places) same) ∙ mine ∙ sym (append-nil (opened_by given)))))
      (λ before. inl (v.beside d (map (λ p. p.section) before.places_behind) sound.checked root
      (ap (map (λ (p : Place). p.section)) before.places ∙ map-append (λ (p : Place). p.section) (traversal q shows.s).places before.places_behind
      ∙ ap (λ (some : List Section). some ++ map (λ (p : Place). p.section) before.places_behind) mine)))
      (followed q d shows.s from))
      (λ pair. inr (pair_had (blocks shows.s) sections d (λ section c. v.received section (subst (λ (some : List Section). Contains some section) (shows.opened.opened ∙ mine) c)) pair))
      (opened_from d shows.s sound shows.opened.checked (shows.opened.root ∙ sym root))

  pub verified_refuses : AreOpenedFrom → AreFollowed → (q : QueryParts) (d : Dag) (sections : List Section) (given : Given) (w : Want) (section : Section) (tasks : List (Task CidParts))
      → IsSound d → root_cid d ≡ q.root → IsKnown q sections section → Names section.cid section.block → ((kind : Kind) → IsReadAt (position_of w) section kind → ⊥)
      → Verified q sections given (open_block w section.cid ∷ tasks) → CollisionPair (taken_as q sections section) d
  verified_refuses opened_from followed q d sections given w section tasks sound root known named bad v = ⊎_elim
      (λ beside. pair_had (section ∷ []) (taken_as q sections section) d (λ x c. subst (IsHad (taken_as q sections section)) (one_alone section x c) (taken_too q sections given w section tasks known v (is_sent_behind q sections section.cid) refl known))
      (b.refused q d given w section tasks sound named bad beside))
      (λ pair. pair_of sections (taken_as q sections section) d (still_taken q sections given w section tasks known v (is_sent_behind q sections section.cid)) pair)
      (verified_beside opened_from followed q d sections given (open_block w section.cid ∷ tasks) sound root v)

  -- ---- sections that open a DAG are taken one by one

  -- a DAG that sections fit, or that they are in progress for
  pub fit_other : (q : QueryParts) (d : Dag) (sections : List Section) (out : List ℕ) → Fits d q sections out → IsOther q d
  fit_other q d sections out h = record {
    checked = h.right.checked;
    root = h.right.root;
    one_each = subst (λ (some : List Section). IfOnce q.dups (HasOneBlockEach some)) h.right.opened h.right.one_each;
    settled = subst (IsSettledAt q (block_list q d)) (sym h.end) tt;
  }

  pub progress_other : (q : QueryParts) (d : Dag) (sections : List Section) (wanted : Spot) → IsInProgress d q sections wanted → IsOther q d
  progress_other q d sections wanted h = record {
    checked = h.right.checked;
    root = h.right.root;
    one_each = subst (λ (some : List Section). IfOnce q.dups (HasOneBlockEach some)) h.right.opened h.right.one_each;
    settled = subst (IsSettledAt q (block_list q d)) (sym h.end)
        (ap (λ (some : List Section). is_sent_behind q some wanted.cid) h.list ∙ not_among q sections wanted.cid h.asked h.not_seen);
  }

  -- a DAG in which a segment of the path leads nowhere
  pub nowhere_other : (q : QueryParts) (d : Dag) (miss : Miss) → IsOpenedFor d q → (traversal q d).end ≡ stopped (stop_of miss) → IsOther q d
  nowhere_other q d miss right end = record {
    checked = right.checked;
    root = right.root;
    one_each = subst (λ (some : List Section). IfOnce q.dups (HasOneBlockEach some)) right.opened right.one_each;
    settled = subst (IsSettledAt q (block_list q d)) (sym end) (by miss);
  }
    where
      by : (miss : Miss) → IsSettledAt q (block_list q d) (stopped (stop_of miss))
      by (no_entry i) = tt
      by (no_directory i) = tt

  module _ (q : QueryParts) (d : Dag) (given : Given) (tasks : List (Task CidParts)) where
    -- the next block of the DAG is wanted, and it passes
    wants_by : (next : Section) (rest : List Section) → opened_list q d ≡ opened_by given ++ next ∷ rest → IsBeside q d (up_to_next tasks given) (tasks_then tasks) → Then tasks → WantsNext q tasks next
    wants_by next rest l beside (then_none e) =
        let done = b.done q d (up_to_next tasks given) (subst (λ (xs : List (Task CidParts)). IsBeside q d (up_to_next tasks given) xs) e beside) in
        absurd (no_more q d (up_to_next tasks given) whole next rest done l)
    wants_by next rest l beside (then_stop miss more e) =
        let stops = b.miss q d (up_to_next tasks given) miss more (subst (λ (xs : List (Task CidParts)). IsBeside q d (up_to_next tasks given) xs) e beside) in
        absurd (no_more q d (up_to_next tasks given) (stopped (stop_of miss)) next rest stops l)
    wants_by next rest l beside (then_block w cid more e) =
        let passes = b.passes q d (up_to_next tasks given) w cid more next rest l (subst (λ (xs : List (Task CidParts)). IsBeside q d (up_to_next tasks given) xs) e beside) in
        record { want = w; more = more; then_is = e ∙ ap (λ (cid : CidParts). open_block w cid ∷ more) (sym passes.0); passes = passes.1 }

    -- what is opened behind the blocks that were given, where the DAG's sections begin with these
    opened_then : (front rest : List Section) → Verified q front given tasks → IsOther q d → block_list q d ≡ front ++ rest
        → (more : List Section) × (opened_list q d ≡ opened_by given ++ more) × IsBeside q d (up_to_next tasks given) (tasks_then tasks)
    opened_then front rest v other l =
        let all = v.opens d rest other l in
        (all.0, all.1, b.up_to_next q d given tasks (v.beside d all.0 other.checked other.root all.1))

    -- a next block that is sent is the next section
    is_sent_next : (front rest more : List Section) (x : Section) → Verified q front given tasks → block_list q d ≡ front ++ rest → opened_list q d ≡ opened_by given ++ x ∷ more
        → is_sent_behind q front x.cid ≡ true → (others : List Section) × (rest ≡ x ∷ others)
    is_sent_next front rest more x v l all new =
        let here : is_sent_behind q (opened_by given) x.cid ≡ true =
        sym (sent_behind q (opened_by given) x.cid) ∙ ap (λ (some : List Section). is_sent_behind q some x.cid) v.sent_are ∙ new in
        let sends = sent_more q (opened_by given) more x here in
        let lists : front ++ rest ≡ front ++ x ∷ sends.0 = sym l ∙ ap (sent q) all ∙ sends.1 ∙ ap (λ (some : List Section). some ++ x ∷ sends.0) v.sent_are in
        (sends.0, append_cancel_left front rest (x ∷ sends.0) lists)

    settled_next : (front : List Section) (x : Section) → AreSettled q front tasks → WantsNext q tasks x → is_sent_behind q front x.cid ≡ true
    settled_next front x settled wants = settled wants.want x.cid wants.more wants.then_is

    wants_first : (front rest more : List Section) (next : Section) → AreSettled q front tasks → Verified q front given tasks → block_list q d ≡ front ++ next ∷ rest
        → opened_list q d ≡ opened_by given ++ more → IsBeside q d (up_to_next tasks given) (tasks_then tasks) → WantsNext q tasks next
    wants_first front rest [] next settled v l all beside =
        let list : block_list q d ≡ front = ap (sent q) (all ∙ append-nil (opened_by given)) ∙ v.sent_are in
        absurd (omega (arith, ap length (sym list ∙ l), length-append front (next ∷ rest)))
    wants_first front rest (x ∷ more) next settled v l all beside =
        let wants : WantsNext q tasks x = wants_by x more all beside (how_then tasks) in
        let first = is_sent_next front (next ∷ rest) more x v l all (settled_next front x settled wants) in
        let same : x ≡ next = let tails = first.1 in cc in
        subst (WantsNext q tasks) same wants

    pub wants_next : (front rest : List Section) (next : Section) → AreSettled q front tasks → Verified q front given tasks → IsOther q d → block_list q d ≡ front ++ next ∷ rest → WantsNext q tasks next
    wants_next front rest next settled v other l =
        let opened = opened_then front (next ∷ rest) v other l in
        wants_first front rest opened.0 next settled v l opened.1 opened.2

    -- a block that is had is the DAG's again
    same_again : (front rest more : List Section) (x known : Section) → IsOther q d → block_list q d ≡ front ++ rest → opened_list q d ≡ opened_by given ++ x ∷ more → x.cid ≡ known.cid
        → Names x.cid x.block → is_sent_behind q front known.cid ≡ false → IsHad front known → x ≡ known
    same_again front rest more x known other l all cids named e (inl within) =
        let sends : Contains (sent q (opened_list q d)) known = subst (λ (some : List Section). Contains some known) (sym l) (Contains-append_left front rest known within) in
        let each_once : q.dups ≡ false = once_behind q front known.cid (sent_asked q (opened_list q d) known sends) e in
        let one : HasOneBlockEach (opened_list q d) = once q.dups (HasOneBlockEach (opened_list q d)) each_once other.one_each in
        let mine : Contains (opened_list q d) x =
        subst (λ (some : List Section). Contains some x) (sym all) (Contains-append_right (opened_by given) (x ∷ more) x (0, omega arith, refl)) in
        let block : x.block ≡ known.block = one x known mine (sent_held q (opened_list q d) known sends) cids in
        λ i. record { cid = cids i; block = block i }
    same_again front rest more x known other l all cids named e (inr own) =
        let block : x.block ≡ known.block = own_again x known cids named own in
        λ i. record { cid = cids i; block = block i }

    passes_by : (front rest more : List Section) (known : Section) (w : Want) (behind : List (Task CidParts)) → tasks_then tasks ≡ open_block w known.cid ∷ behind
        → is_sent_behind q front known.cid ≡ false → IsHad front known → Verified q front given tasks → IsOther q d → block_list q d ≡ front ++ rest
        → opened_list q d ≡ opened_by given ++ more → IsBeside q d (up_to_next tasks given) (tasks_then tasks) → Passes q w known
    passes_by front rest [] known w behind e new within v other l all beside =
        let here : opened_list q d ≡ opened_by given = all ∙ append-nil (opened_by given) in
        let stops = b.stops q d (up_to_next tasks given) w known.cid behind here (subst (λ (xs : List (Task CidParts)). IsBeside q d (up_to_next tasks given) xs) e beside) in
        let settled : is_sent_behind q (block_list q d) known.cid ≡ true = subst (IsSettledAt q (block_list q d)) (ap (λ (t : Traversal). t.end) stops) other.settled in
        let list : block_list q d ≡ front = ap (sent q) here ∙ v.sent_are in
        let both : is_sent_behind q front known.cid ≡ true = ap (λ (some : List Section). is_sent_behind q some known.cid) (sym list) ∙ settled in
        absurd (cc (both, new))
    passes_by front rest (x ∷ more) known w behind e new within v other l all beside =
        let passes = b.passes q d (up_to_next tasks given) w known.cid behind x more all (subst (λ (xs : List (Task CidParts)). IsBeside q d (up_to_next tasks given) xs) e beside) in
        let same : x ≡ known = same_again front rest more x known other l all passes.0 (passes_named (is_read_at q w) w x passes.1) new within in
        subst (Passes q w) same passes.1

    pub passes_again : (front rest : List Section) (known : Section) (w : Want) (more : List (Task CidParts)) → tasks_then tasks ≡ open_block w known.cid ∷ more
        → is_sent_behind q front known.cid ≡ false → IsHad front known → Verified q front given tasks → IsOther q d → block_list q d ≡ front ++ rest → Passes q w known
    passes_again front rest known w more e new within v other l =
        let opened = opened_then front rest v other l in
        passes_by front rest opened.0 known w more e new within v other l opened.1 opened.2

    -- and once all were taken

    none_left : (sections more : List Section) → AreSettled q sections tasks → Verified q sections given tasks → block_list q d ≡ sections → opened_list q d ≡ opened_by given ++ more
        → IsBeside q d (up_to_next tasks given) (tasks_then tasks) → more ≡ []
    none_left sections [] settled v l all beside = refl
    none_left sections (x ∷ more) settled v l all beside =
        let wants : WantsNext q tasks x = wants_by x more all beside (how_then tasks) in
        let first = is_sent_next sections [] more x v (l ∙ sym (append-nil sections)) all (settled_next sections x settled wants) in
        let tails = first.1 in
        absurd (cc tails)

    all_taken : (sections : List Section) → AreSettled q sections tasks → Verified q sections given tasks → IsOther q d → block_list q d ≡ sections
        → (opened_list q d ≡ opened_by given) × IsBeside q d (up_to_next tasks given) (tasks_then tasks)
    all_taken sections settled v other l =
        let opened = opened_then sections [] v other (l ∙ sym (append-nil sections)) in
        let none : opened.0 ≡ [] = none_left sections opened.0 settled v l opened.1 opened.2 in
        (opened.1 ∙ ap (λ (more : List Section). opened_by given ++ more) none ∙ append-nil (opened_by given), opened.2)

    ends_by : opened_list q d ≡ opened_by given → (traversal q d).end ≡ whole → IsBeside q d (up_to_next tasks given) (tasks_then tasks) → Then tasks
        → (tasks_then tasks ≡ []) × (traversal q d ≡ ending (up_to_next tasks given) whole)
    ends_by l end beside (then_none e) = (e, b.done q d (up_to_next tasks given) (subst (λ (xs : List (Task CidParts)). IsBeside q d (up_to_next tasks given) xs) e beside))
    ends_by l end beside (then_stop miss more e) =
        let stops = b.miss q d (up_to_next tasks given) miss more (subst (λ (xs : List (Task CidParts)). IsBeside q d (up_to_next tasks given) xs) e beside) in
        let both : stopped (stop_of miss) ≡ whole = sym (ap (λ (t : Traversal). t.end) stops) ∙ end in
        absurd (cc both)
    ends_by l end beside (then_block w cid more e) =
        let stops = b.stops q d (up_to_next tasks given) w cid more l (subst (λ (xs : List (Task CidParts)). IsBeside q d (up_to_next tasks given) xs) e beside) in
        let both : stopped (gone (spot_of w cid)) ≡ whole = sym (ap (λ (t : Traversal). t.end) stops) ∙ end in
        absurd (cc both)

    stop_differs : (miss : Miss) (spot : Spot) → stopped (stop_of miss) ≡ stopped (gone spot) → ⊥
    stop_differs (no_entry i) spot e = absurd (cc e)
    stop_differs (no_directory i) spot e = absurd (cc e)

    waits_by : (wanted : Spot) → opened_list q d ≡ opened_by given → (traversal q d).end ≡ stopped (gone wanted) → IsBeside q d (up_to_next tasks given) (tasks_then tasks) → Then tasks
        → WantsAt tasks wanted × (traversal q d ≡ ending (up_to_next tasks given) (stopped (gone wanted)))
    waits_by wanted l end beside (then_none e) =
        let done = b.done q d (up_to_next tasks given) (subst (λ (xs : List (Task CidParts)). IsBeside q d (up_to_next tasks given) xs) e beside) in
        let both : whole ≡ stopped (gone wanted) = sym (ap (λ (t : Traversal). t.end) done) ∙ end in
        absurd (cc both)
    waits_by wanted l end beside (then_stop miss more e) =
        let stops = b.miss q d (up_to_next tasks given) miss more (subst (λ (xs : List (Task CidParts)). IsBeside q d (up_to_next tasks given) xs) e beside) in
        absurd (stop_differs miss wanted (sym (ap (λ (t : Traversal). t.end) stops) ∙ end))
    waits_by wanted l end beside (then_block w cid more e) =
        let stops = b.stops q d (up_to_next tasks given) w cid more l (subst (λ (xs : List (Task CidParts)). IsBeside q d (up_to_next tasks given) xs) e beside) in
        let ends : stopped (gone (spot_of w cid)) ≡ stopped (gone wanted) = sym (ap (λ (t : Traversal). t.end) stops) ∙ end in
        let same : spot_of w cid ≡ wanted = cc in
        (record { want = w; cid = cid; more = more; then_is = e; spot_is = same }, stops ∙ ap (ending (up_to_next tasks given)) ends)

    pub waits_at : (sections : List Section) (wanted : Spot) → AreSettled q sections tasks → Verified q sections given tasks → IsInProgress d q sections wanted → WantsAt tasks wanted × (output_so_far q d ≡ (up_to_next tasks given).text)
    waits_at sections wanted settled v h =
        let (l, beside) = all_taken sections settled v (progress_other q d sections wanted h) h.list in
        let (wants, gives) = waits_by wanted l h.end beside (how_then tasks) in
        (wants, written_stopped q d (up_to_next tasks given) (gone wanted) gives)

    pub ends_whole : SayTexts → MeetEntries → (sections : List Section) (out : List ℕ) → AreSettled q sections tasks → Verified q sections given tasks → Fits d q sections out
        → (tasks_then tasks ≡ []) × (out ≡ written_whole q (up_to_next tasks given))
    ends_whole say meet sections out settled v h =
        let (l, beside) = all_taken sections settled v (fit_other q d sections out h) h.list in
        let (none, gives) = ends_by l h.end beside (how_then tasks) in
        (none, h.text ∙ whole_is say meet q d (up_to_next tasks given) h.right gives)

    -- the tasks stop where the DAG's path does
    one_miss : (other miss : Miss) → stopped (stop_of other) ≡ stopped (stop_of miss) → other ≡ miss
    one_miss (no_entry i) (no_entry j) e = let same : i ≡ j = cc in ap no_entry same
    one_miss (no_entry i) (no_directory j) e = cc
    one_miss (no_directory i) (no_entry j) e = cc
    one_miss (no_directory i) (no_directory j) e = let same : i ≡ j = cc in ap no_directory same

    nowhere_by : (miss : Miss) → opened_list q d ≡ opened_by given → (traversal q d).end ≡ stopped (stop_of miss) → IsBeside q d (up_to_next tasks given) (tasks_then tasks) → Then tasks
        → (more : List (Task CidParts)) × (tasks_then tasks ≡ stop_at miss ∷ more)
    nowhere_by miss l end beside (then_none e) =
        let done = b.done q d (up_to_next tasks given) (subst (λ (xs : List (Task CidParts)). IsBeside q d (up_to_next tasks given) xs) e beside) in
        let both : whole ≡ stopped (stop_of miss) = sym (ap (λ (t : Traversal). t.end) done) ∙ end in
        absurd (cc both)
    nowhere_by miss l end beside (then_stop other more e) =
        let stops = b.miss q d (up_to_next tasks given) other more (subst (λ (xs : List (Task CidParts)). IsBeside q d (up_to_next tasks given) xs) e beside) in
        let same : other ≡ miss = one_miss other miss (sym (ap (λ (t : Traversal). t.end) stops) ∙ end) in
        (more, e ∙ ap (λ (miss : Miss). stop_at miss ∷ more) same)
    nowhere_by miss l end beside (then_block w cid more e) =
        let stops = b.stops q d (up_to_next tasks given) w cid more l (subst (λ (xs : List (Task CidParts)). IsBeside q d (up_to_next tasks given) xs) e beside) in
        absurd (stop_differs miss (spot_of w cid) (sym end ∙ ap (λ (t : Traversal). t.end) stops))

    pub stops_nowhere : (sections : List Section) (miss : Miss) → AreSettled q sections tasks → Verified q sections given tasks → IsOpenedFor d q → block_list q d ≡ sections
        → (traversal q d).end ≡ stopped (stop_of miss) → (more : List (Task CidParts)) × (tasks_then tasks ≡ stop_at miss ∷ more)
    stops_nowhere sections miss settled v right list end =
        let (l, beside) = all_taken sections settled v (nowhere_other q d miss right end) list in
        nowhere_by miss l end beside (how_then tasks)
