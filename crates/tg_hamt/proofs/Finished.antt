-- The shard of all slots that came.
use Rattle.std.proofs.Common.{◌≡◌, ℕ, ◌+◌, ◌-◌, ◌*◌, ◌<◌, ◌≤◌, List, [], ◌∷◌, ◌++◌, length, take, refl, ap, sym, ◌∙◌, subst, ⊎_elim, inl, inr, arith}
use Rattle.std.specs.List.{sum_by}
use Rattle.std.specs.Prelude.{All, Contains, map}
use Rattle.std.proofs.Math.Nat.{mul-le-mul_right}
use Rattle.std.proofs.Math.Seq.{take-length}
use Rattle.std.proofs.lemmas.List.Elements.{All-push, Contains-append_cases, Contains-append_left, Contains-append_right}
use Rattle.std.proofs.lemmas.List.Sums.{sum_by-take-le}
use Rattle.tg_cid.specs.Cid.{CidParts}
use Rattle.tg_node_writing.specs.KeepingSteps.{Joins, keeps_both}
use Rattle.tg_hamt.proofs.MadeSlots.{MadeSlot, all_checked, all_blocks, all_cids, all_laid, all_listed, all_named, all_own, all_own_blocks, all_plain, all_read, all_stand, all_tsizes, all_whole, children_in, links_lead, links_of, numbers_in, own_in, roots_are, runs_in, slots_in}
use Rattle.tg_hamt.proofs.Making.{IsMaking, IsSoFar}
use Rattle.tg_hamt.proofs.ShardOrder.{shard_behind, shard_root}
use Rattle.tg_hamt.specs.Links.{IsKeptShard, tsize_in}
use Rattle.tg_hamt.specs.Order.{IsHashed, entry_at, tsizes_in}
use Rattle.tg_hamt.specs.Shards.{AreLaidIn, IsBelow, IsMadeShard, MakesShard, listed_as, shard_room}
use Rattle.tg_hamt.specs.declared.order.Hashed.{Hashed}
use Rattle.tg_model_laws.specs.Places.{IsFaultlessShard}
use Rattle.tg_model_laws.specs.Stores.{KeepingJoins}
use Rattle.tg_model.specs.Dag.{Dag, Section, blocks_of_children}
use Rattle.tg_model.specs.ImportLayout.{HasPlainCid, IsShardWritten, IsWritten, shard_unix}
use Rattle.tg_model.specs.Reading.{AreSlots, ReadsNode}
use Rattle.tg_model.specs.Stores.{KeepMeaning, Keeping, kept_in}
use Rattle.tg_model.specs.declared.kinds.Kind.TheVariants.{Shard}
use Rattle.tg_model.specs.declared.kinds.Made.{Made}
use Rattle.tg_model.specs.declared.kinds.NewEntry.{NewEntry}
use Rattle.tg_model.specs.declared.kinds.Slot.{Slot}
use Rattle.tg_node_writing.specs.Nodes.{LeadTo, NodeLaws}
use Rattle.tg_cid.specs.declared.cid.Codec.TheVariants.{DagPb}
use Rattle.tg_node_writing.specs.BlockOrder.{LinksOfNodes}
use Rattle.tg_node_writing.specs.Keeping.{section_of}

numbers_of_slots : (ms : List MadeSlot) → numbers_in ms ≡ map (λ (s : Slot). s.slot) (slots_in ms)
numbers_of_slots [] = refl
numbers_of_slots (m ∷ ms) = ap (λ (ns : List ℕ). m.slot.slot ∷ ns) (numbers_of_slots ms)

module _ (laws : NodeLaws) (es : List NewEntry) (dags : ℕ → Dag) (above : List ℕ) (order : List Hashed) (links : List NewEntry) (bits : List ℕ) (sections : List Section)
    (made : Made) (keeping : Keeping) (f : IsSoFar es dags above order (length order) links bits sections) (k : IsKeptShard links bits made keeping) where
  names_are : map (λ (e : NewEntry). e.name) links ≡ map (λ (e : NewEntry). e.name) (links_of f.slots)
  names_are = ap (λ (l : List NewEntry). map (λ (e : NewEntry). e.name) l) (sym f.links_are)

  -- the block is read as the shard
  reads : ReadsNode k.block (Shard (slots_in f.slots))
  reads =
      let u = laws.unix_node links (shard_unix k.shortest) k.block k.written in
      let read = all_read es dags above f.slots u.0 f.each (u.2 ∙ names_are ∙ all_named es dags above f.slots f.each) in
      let cids = sym (all_cids es dags above f.slots f.each) ∙ ap (λ (l : List NewEntry). map (λ (e : NewEntry). e.cid) l) f.links_are in
      let numbers = f.numbers_are ∙ sym k.used in
      record {
        links = u.0;
        cids = map (λ (e : NewEntry). e.cid) links;
        unix = shard_unix k.shortest;
        node = u.1;
        reads = inr (inr (inl (record {
          type_is = refl;
          few = k.few;
          slots = slots_in f.slots;
          slots_are = subst (λ (ns : List ℕ). AreSlots ns u.0 (map (λ (e : NewEntry). e.cid) links) (slots_in f.slots)) numbers
              (subst (λ (cs : List CidParts). AreSlots (numbers_in f.slots) u.0 cs (slots_in f.slots)) cids read);
          kind_is = refl;
        })));
      }

  -- and written as the shard
  written : IsShardWritten k.block (slots_in f.slots) (children_in f.slots)
  written = record {
    bits = k.shortest;
    bits_are = record { used = k.used ∙ sym f.numbers_are ∙ numbers_of_slots f.slots; shortest = k.no_zero };
    written =
        subst (λ (names : List (List ℕ)). IsWritten k.block names (children_in f.slots) (shard_unix k.shortest)) (names_are ∙ all_named es dags above f.slots f.each)
        (laws.written links (shard_unix k.shortest) k.block (children_in f.slots) k.written
        (subst (λ (l : List NewEntry). LeadTo l (children_in f.slots)) f.links_are (links_lead es dags above f.slots f.each)));
  }

  runs_all : runs_in f.slots ≡ order
  runs_all = f.runs_are ∙ take-length order

  pub shard_made : All (IsHashed es) order → IsFaultlessShard → length above ≤ 7 → IsMadeShard es dags order above made (sections ++ section_of DagPb k.block ∷ [])
  shard_made among faultless few = record {
    among = among;
    section = section_of DagPb k.block;
    slots = slots_in f.slots;
    children = children_in f.slots;
    cid_is = k.cid_is;
    content_is = k.content_is;
    tsize_is = k.tsize_is ∙ ap (λ (n : ℕ). length k.block + n) (ap (sum_by tsize_in) (sym f.links_are) ∙ all_tsizes es dags above f.slots f.each);
    whole = all_whole es dags above f.slots f.each;
    stands = record {
      named = refl;
      reads = reads;
      links = roots_are es dags above f.slots f.each;
      stands = (faultless above (slots_in f.slots)).1 (record { few = few; entries = all_stand es dags above f.slots f.each });
      of_size = tt;
      tells_size = tt;
    };
    checked = all_checked es dags above f.slots f.each;
    listed = all_listed es dags above f.slots f.each ∙ ap (λ (l : List Hashed). map (listed_as es dags) l) runs_all;
    sections_are = ap (λ (l : List Section). l ++ section_of DagPb k.block ∷ []) (all_own es dags above f.slots f.each ∙ f.own_are);
    blocks_are = λ b has. ⊎_elim
        (λ (here : Contains (section_of DagPb k.block ∷ []) b). inl (Contains-append_right sections (section_of DagPb k.block ∷ []) b here))
        (λ (there : Contains (blocks_of_children (children_in f.slots)) b).
        ⊎_elim
        (λ (own : Contains (own_in f.slots) b). inl (Contains-append_left sections (section_of DagPb k.block ∷ []) b (subst (λ (l : List Section). Contains l b) f.own_are own)))
        (λ (below : IsBelow dags (runs_in f.slots) b). inr (subst (λ (l : List Hashed). IsBelow dags l b) runs_all below))
        (all_blocks es dags above f.slots f.each b there))
        (Contains-append_cases (section_of DagPb k.block ∷ []) (blocks_of_children (children_in f.slots)) b has);
    own_blocks = λ b has. ⊎_elim
        (λ (there : Contains sections b).
        Contains-append_right (section_of DagPb k.block ∷ []) (blocks_of_children (children_in f.slots)) b
        (all_own_blocks es dags above f.slots f.each b (subst (λ (l : List Section). Contains l b) (sym f.own_are) there)))
        (λ (here : Contains (section_of DagPb k.block ∷ []) b). Contains-append_left (section_of DagPb k.block ∷ []) (blocks_of_children (children_in f.slots)) b here)
        (Contains-append_cases sections (section_of DagPb k.block ∷ []) b has);
    plain = All-push HasPlainCid sections (section_of DagPb k.block) (subst (All HasPlainCid) f.own_are (all_plain es dags above f.slots f.each)) (refl, refl);
    written = written;
    laid = λ options laid. all_laid es dags above options f.slots f.each (subst (AreLaidIn options dags) (sym runs_all) laid);
  }

pub finished : {S : Type 0} → (m : KeepMeaning S) → Joins m → KeepingJoins → NodeLaws → LinksOfNodes → IsFaultlessShard → (before now after : S) (es : List NewEntry) (order : List Hashed) (level start : ℕ) (links : List NewEntry) (bits : List ℕ) (made : Made)
    → IsMaking m before now es order level start links bits → All (IsHashed es) order → length order ≤ start → level < 8 → IsKeptShard links bits made (kept_in m now after)
    → MakesShard es order level made (kept_in m before after)
finished m joins stores laws links_law faultless before now after es order level start links bits made h among done low k =
    let same : start ≡ length order = omega (arith, h.inside, done) in
    record {
      sections = h.sections ++ section_of DagPb k.block ∷ [];
      keeps = keeps_both m joins stores before now after h.sections (section_of DagPb k.block ∷ []) h.keeps k.keeps;
      behind_links = shard_behind links_law es h.sections links (shard_unix k.shortest) (section_of DagPb k.block) h.behind_links h.linked k.written;
      root = shard_root h.sections (section_of DagPb k.block) made.cid k.cid_is;
      shard = λ dags above leads deep passed.
          shard_made laws es dags above order links bits h.sections made (kept_in m now after)
          (subst (λ (s : ℕ). IsSoFar es dags above order s links bits h.sections) same (h.so_far dags above leads deep passed)) k among faultless (omega (arith, deep, low));
    }

pub finished_light : {S : Type 0} → (m : KeepMeaning S) (before now after : S) (es : List NewEntry) (order : List Hashed) (level start : ℕ) (links : List NewEntry) (bits : List ℕ) (made : Made)
    → IsMaking m before now es order level start links bits → length order ≤ start → IsKeptShard links bits made (kept_in m now after)
    → made.tsize ≤ tsizes_in es order + shard_room level (length order)
finished_light m before now after es order level start links bits made h done k =
    let same : start ≡ length order = omega (arith, h.inside, done) in
    let light : sum_by tsize_in links ≤ tsizes_in es (take (length order) order) + 131072 * (7 - level) * length order =
    subst (λ (s : ℕ). sum_by tsize_in links ≤ tsizes_in es (take s order) + 131072 * (7 - level) * s) same h.light in
    let all : tsizes_in es (take (length order) order) ≡ tsizes_in es order = ap (tsizes_in es) (take-length order) in
    omega (arith, light, all, k.tsize_is, k.small)

pub room_left : {S : Type 0} → (m : KeepMeaning S) (before now : S) (es : List NewEntry) (order : List Hashed) (level start : ℕ) (links : List NewEntry) (bits : List ℕ)
    → IsMaking m before now es order level start links bits → length order < 4294967296 → tsizes_in es order ≤ 4611686018427387904 → sum_by tsize_in links ≤ 9223372036854775808
room_left m before now es order level start links bits h few most =
    let part = sum_by-take-le (λ (x : Hashed). (entry_at es x.index).tsize) order start in
    let cost = mul-le-mul_right {m = 131072 * (7 - level)} {n = 917504} start (omega arith) in
    omega (arith, h.light, part, cost, h.inside, few, most)
