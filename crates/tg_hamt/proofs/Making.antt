-- A shard while its slots come, in ascending order.
use Rattle.std.proofs.Common.{◌≡◌, ℕ, ◌+◌, ◌-◌, ◌*◌, ◌^◌, ◌<◌, ◌≤◌, List, Some, [], ◌∷◌, ◌++◌, length, get_or, take, refl, ap, sym, ◌∙◌, subst, arith}
use Rattle.std.specs.List.{slice_range, sum_by}
use Rattle.std.specs.Prelude.{All, Contains}
use Rattle.std.proofs.lemmas.List.{append-nil, get_or-take, get_or_default, length-append, length_push, map-append}
use Rattle.std.proofs.lemmas.List.Elements.{All-append, All-head, All-nil, All-push}
use Rattle.std.proofs.lemmas.List.Sums.{sum_by-append, sum_by-take-le, sum_by_push}
use Rattle.std.proofs.lemmas.Grind.{flat_map-append}
use Rattle.std.proofs.lemmas.Option.{get_or_from_slice_get, slice_get_within}
use Rattle.tg_cid.specs.declared.cid.HashKind.TheVariants.{Sha256}
use Rattle.tg_hamt.proofs.BitFields.{at_least}
use Rattle.tg_node_writing.specs.KeepingSteps.{Joins, keeps_both, keeps_nothing, same_stops, stops_behind}
use Rattle.tg_hamt.proofs.MadeSlots.{IsMadeSlot, MadeSlot, all_of_shards, child_made, child_slot, entry_made, entry_slot, links_of, numbers_in, of_shards, own_in, runs_in, shard_dag}
use Rattle.tg_hamt.proofs.ShardOrder.{child_known, entry_known, linked_more, shards_behind}
use Rattle.tg_hamt.proofs.Runs.{HashesFit, all_range, length_range, next_higher, range_joins, range_of_one, run_deeper, run_order, run_passed}
use Rattle.tg_hamt.specs.Links.{IsShardLink, child_link_of, entry_link_of, tsize_in}
use Rattle.tg_hamt.specs.Order.{IsGoodEntry, IsOrder, IsPassed, IsRun, entry_at, slot_in, slots_of, tsizes_in}
use Rattle.tg_hamt.specs.Shards.{IsOfShard, LeadsTo, MakesShard, StopsShard, shard_room}
use Rattle.tg_hamt.specs.declared.order.Hashed.{Hashed}
use Rattle.tg_model_laws.specs.Places.{StandsBehind}
use Rattle.tg_model_laws.specs.Stores.{KeepingJoins}
use Rattle.tg_model.specs.Dag.{Dag, Section}
use Rattle.tg_model.specs.Reading.{big_endian, used_slots}
use Rattle.tg_model.specs.Stores.{KeepMeaning, kept_in}
use Rattle.tg_model.specs.declared.kinds.Made.{Made}
use Rattle.tg_model.specs.declared.kinds.NewEntry.{NewEntry}
use Rattle.tg_model.specs.declared.stores.KeepFault.{KeepFault}
use Rattle.tg_model.specs.declared.stores.KeepFault.TheVariants as faults
use Rattle.tg_murmur.specs.NameHash.{name_hash, slot_of}
use Rattle.tg_node_writing.specs.BlockOrder.{AreBehindLinks, cids_of, entry_cids}
use Rattle.tg_node_writing.specs.BlockOrderLaws.{behind_nothing}
use Rattle.tg_node_writing.specs.Keeping.{Keeps, StopsAfter}

-- the slots that were made of the entries before `start`
pub record IsSoFar (es : List NewEntry) (dags : ℕ → Dag) (above : List ℕ) (order : List Hashed) (start : ℕ) (links : List NewEntry) (bits : List ℕ) (sections : List Section) : Type 0 where
  pub slots : List MadeSlot
  pub each : All (IsMadeSlot es dags above) slots
  pub runs_are : runs_in slots ≡ take start order
  pub links_are : links_of slots ≡ links
  pub own_are : own_in slots ≡ sections
  pub numbers_are : numbers_in slots ≡ used_slots bits

-- the shard while its slots come
pub record IsMaking {S : Type 0} (m : KeepMeaning S) (before now : S) (es : List NewEntry) (order : List Hashed) (level start : ℕ) (links : List NewEntry) (bits : List ℕ) : Type 0 where
  pub inside : start ≤ length order
  pub sections : List Section
  pub keeps : Keeps sections (kept_in m before now)
  pub behind_links : AreBehindLinks (entry_cids es) sections
  pub linked : All (Contains (entry_cids es ++ cids_of sections)) (entry_cids links)
  pub so_far : (dags : ℕ → Dag) (above : List ℕ) → All (LeadsTo es dags) order → length above ≡ level → IsPassed above order
      → IsSoFar es dags above order start links bits sections
  pub low : (d : Hashed) → start < length order → big_endian bits < 2 ^ slot_in (get_or order start d) level
  pub few_here : (d : Hashed) → start < length order → length links ≤ slot_in (get_or order start d) level
  pub few : length links ≤ 256
  pub good : All IsShardLink links
  pub light : sum_by tsize_in links ≤ tsizes_in es (take start order) + 131072 * (7 - level) * start

-- nothing came
pub making_none : {S : Type 0} → (m : KeepMeaning S) → ((s : S) → m.kept s s []) → (s : S) (es : List NewEntry) (order : List Hashed) (level : ℕ) (links : List NewEntry) (bits : List ℕ)
    → links ≡ [] → used_slots bits ≡ [] → big_endian bits < 2 ^ 0 → IsMaking m s s es order level 0 links bits
making_none m rests s es order level links bits none used low =
    let zero_low : big_endian bits < 1 = low in
    record {
      inside = omega arith;
      sections = [];
      keeps = keeps_nothing m rests s;
      behind_links = behind_nothing (entry_cids es);
      linked = subst (λ (l : List NewEntry). All (Contains (entry_cids es ++ [])) (entry_cids l)) (sym none) (All-nil (Contains (entry_cids es ++ [])));
      so_far = λ dags above leads deep passed. record {
        slots = [];
        each = All-nil (IsMadeSlot es dags above);
        runs_are = refl;
        links_are = sym none;
        own_are = refl;
        numbers_are = sym used;
      };
      low = λ d lt. at_least (big_endian bits) 0 (slot_in (get_or order 0 d) level) low (omega arith);
      few_here = λ d lt. (let e = ap length none in omega (arith, e));
      few = (let e = ap length none in omega (arith, e));
      good = subst (All IsShardLink) (sym none) (All-nil IsShardLink);
      light = (let e = ap (sum_by tsize_in) none in omega (arith, e));
    }

-- what a step of a shard knows
pub record IsStep (es : List NewEntry) (order : List Hashed) (level start end number : ℕ) : Type 0 where
  pub fits : HashesFit
  pub slots_fit : (name : List ℕ) (level : ℕ) → level < 8 → slot_of name level < 256
  pub good : All IsGoodEntry es
  pub is_order : IsOrder es order
  pub above : List ℕ
  pub deep : length above ≡ level
  pub passed : IsPassed above order
  pub low : level < 8
  pub run : IsRun order start end level
  pub number_is : (d : Hashed) → number ≡ slot_in (get_or order start d) level

-- what it knows, by the run at hand and the slot of its first entry
pub step_at : (es : List NewEntry) (order : List Hashed) (level start end number : ℕ) → HashesFit → ((name : List ℕ) (level : ℕ) → level < 8 → slot_of name level < 256)
    → All IsGoodEntry es → IsOrder es order → (above : List ℕ) × (length above ≡ level) × IsPassed above order → level < 8 → IsRun order start end level → start < length order
    → (d : Hashed) → number ≡ slot_in (get_or order start d) level → IsStep es order level start end number
step_at es order level start end number fits slots_fit good is_order passed low run inside d is = record {
  fits = fits;
  slots_fit = slots_fit;
  good = good;
  is_order = is_order;
  above = passed.0;
  deep = passed.1;
  passed = passed.2;
  low = low;
  run = run;
  number_is = λ e. is ∙ ap (λ (x : Hashed). slot_in x level) (get_or_default order start d e inside);
}

-- one slot more is so far made
so_far_more : (es : List NewEntry) (dags : ℕ → Dag) (above : List ℕ) (order : List Hashed) (start end : ℕ) (links : List NewEntry) (bits : List ℕ) (sections : List Section)
    → (m : MadeSlot) (new_links : List NewEntry) (new_bits : List ℕ) → IsSoFar es dags above order start links bits sections → IsMadeSlot es dags above m
    → start ≤ end → m.run ≡ slice_range order start end → new_links ≡ links ++ m.link ∷ [] → used_slots new_bits ≡ used_slots bits ++ m.slot.slot ∷ []
    → IsSoFar es dags above order end new_links new_bits (sections ++ m.own)
so_far_more es dags above order start end links bits sections m new_links new_bits h made le run links_are used = record {
  slots = h.slots ++ m ∷ [];
  each = All-push (IsMadeSlot es dags above) h.slots m h.each made;
  runs_are =
      flat_map-append (λ (x : MadeSlot). x.run) h.slots (m ∷ [])
      ∙ ap (λ (l : List Hashed). runs_in h.slots ++ l) (append-nil m.run ∙ run)
      ∙ ap (λ (l : List Hashed). l ++ slice_range order start end) h.runs_are ∙ sym (range_joins order start end le);
  links_are =
      map-append (λ (x : MadeSlot). x.link) h.slots (m ∷ []) ∙ ap (λ (l : List NewEntry). l ++ m.link ∷ []) h.links_are ∙ sym links_are;
  own_are =
      flat_map-append (λ (x : MadeSlot). x.own) h.slots (m ∷ []) ∙ ap (λ (l : List Section). own_in h.slots ++ l) (append-nil m.own)
      ∙ ap (λ (l : List Section). l ++ m.own) h.own_are;
  numbers_are =
      map-append (λ (x : MadeSlot). x.slot.slot) h.slots (m ∷ []) ∙ ap (λ (l : List ℕ). l ++ m.slot.slot ∷ []) h.numbers_are ∙ sym used;
}

-- the bounds behind a slot
number_fits : (es : List NewEntry) (order : List Hashed) (level start end number : ℕ) → IsStep es order level start end number → number < 256
number_fits es order level start end number s =
    let d : Hashed = record { hash = 0; index = 0 } in
    let begins = s.run.begins in
    let ends = s.run.ends in
    let item = get_or order start d in
    let hash = (s.is_order.each start d (omega arith)).hash_is in
    let is = s.number_is d in
    let most = s.slots_fit (entry_at es item.index).name level s.low in
    let same : slot_in item level ≡ slot_of (entry_at es item.index).name level = ap (λ (h : ℕ). slot_in (record { hash = h; index = item.index }) level) hash in
    omega (arith, is, most, same)

next_above : (es : List NewEntry) (order : List Hashed) (level start end number : ℕ) → IsStep es order level start end number → (d : Hashed) → end < length order
    → number + 1 ≤ slot_in (get_or order end d) level
next_above es order level start end number s d lt =
    let up = next_higher s.fits es order s.is_order s.above level s.low s.deep s.passed start end d s.run lt in
    let is = s.number_is d in
    omega (arith, up, is)

-- the room that is left for shards below
entry_light : (sum new_sum tsize prefix new_prefix cost start end : ℕ) → sum ≤ prefix + cost * start → new_sum ≡ sum + tsize → new_prefix ≡ prefix + tsize → end ≡ start + 1
    → new_sum ≤ new_prefix + cost * end
entry_light sum new_sum tsize prefix new_prefix cost start end h a b e = (let f : cost * end ≡ cost * start + cost = ap (λ (n : ℕ). cost * n) e ∙ (let g : cost * (start + 1) ≡ cost * start + cost = omega arith in g) in omega (arith, h, a, b, f))

child_light : (sum new_sum tsize prefix part new_prefix less cost start len end : ℕ) → sum ≤ prefix + cost * start → new_sum ≡ sum + tsize → new_prefix ≡ prefix + part → end ≡ start + len
    → 1 ≤ len → cost ≡ less + 131072 → tsize ≤ part + (131072 + less * len) → new_sum ≤ new_prefix + cost * end
child_light sum new_sum tsize prefix part new_prefix less cost start len end h a b e some c t =
    let f : cost * end ≡ cost * start + cost * len = ap (λ (n : ℕ). cost * n) e ∙ (let g : cost * (start + len) ≡ cost * start + cost * len = omega arith in g) in
    let k : cost * len ≡ less * len + 131072 * len = ap (λ (n : ℕ). n * len) c ∙ (let g : (less + 131072) * len ≡ less * len + 131072 * len = omega arith in g) in
    omega (arith, h, a, b, f, k, some, t)

-- the Tsizes of one slot more
tsizes_more : (es : List NewEntry) (order : List Hashed) (start end : ℕ) → start ≤ end → tsizes_in es (take end order) ≡ tsizes_in es (take start order) + tsizes_in es (slice_range order start end)
tsizes_more es order start end le =
    ap (tsizes_in es) (range_joins order start end le) ∙ sum_by-append (λ (x : Hashed). (entry_at es x.index).tsize) (take start order) (slice_range order start end)

-- an entry stands behind its slots
stands_behind : (slots : List ℕ) (item : Hashed) (name : List ℕ) → item.hash ≡ name_hash name → take (length slots) (slots_of item) ≡ slots → StandsBehind slots (Some name)
stands_behind slots item name hash passed = λ level slot e.
    let within = slice_get_within slots level slot e in
    sym (ap (λ (h : ℕ). slot_in (record { hash = h; index = item.index }) level) hash)
    ∙ sym (get_or-take (length slots) (slots_of item) level 0 within)
    ∙ ap (λ (l : List ℕ). get_or l level 0) passed
    ∙ get_or_from_slice_get slots level slot 0 e

-- ---- a slot with an entry

pub entry_next : {S : Type 0} → (m : KeepMeaning S) (before now : S) (es : List NewEntry) (order : List Hashed) (level start end number index : ℕ) (links new_links : List NewEntry) (bits new_bits : List ℕ) (e : NewEntry)
    → IsMaking m before now es order level start links bits → IsStep es order level start end number → end - start ≡ 1
    → ((d : Hashed) → index ≡ (get_or order start d).index) → e ≡ get_or es index e
    → new_links ≡ links ++ entry_link_of number e ∷ [] → used_slots new_bits ≡ used_slots bits ++ number ∷ [] → big_endian new_bits < 2 ^ (number + 1)
    → IsMaking m before now es order level end new_links new_bits
entry_next m before now es order level start end number index links new_links bits new_bits e h s one index_is is links_are used low =
    let none : Hashed = record { hash = 0; index = 0 } in
    let item = get_or order start none in
    let begins = s.run.begins in
    let ends = s.run.ends in
    let le : start ≤ end = omega arith in
    let hashed = s.is_order.each start none (omega arith) in
    let at : e ≡ entry_at es item.index = is ∙ ap (λ (i : ℕ). get_or es i e) (index_is none) ∙ get_or_default es item.index e _ hashed.inside in
    let good : IsGoodEntry e = subst IsGoodEntry (sym at) (s.good item.index _ hashed.inside) in
    let fits = number_fits es order level start end number s in
    let run = range_of_one order start end none one (omega arith) in
    let count : length new_links ≡ length links + 1 = ap length links_are ∙ length_push links (entry_link_of number e) in
    let below = h.few_here none (omega arith) in
    let number_is = s.number_is none in
    record {
      inside = s.run.ends;
      sections = h.sections ++ [];
      keeps = subst (λ (l : List Section). Keeps l (kept_in m before now)) (sym (append-nil h.sections)) h.keeps;
      behind_links = subst (AreBehindLinks (entry_cids es)) (sym (append-nil h.sections)) h.behind_links;
      linked = linked_more es h.sections [] links new_links (entry_link_of number e) links_are h.linked
          (entry_known es (h.sections ++ []) e item.index at hashed.inside);
      so_far = λ dags above leads deep passed.
          let lead = leads start none (omega arith) in
          let behind = run_passed s.fits es order s.is_order above level s.low deep passed start end none s.run in
          let mine : take (length (above ++ slot_in item level ∷ [])) (slots_of item) ≡ above ++ slot_in item level ∷ [] =
          All-head (λ (x : Hashed). take (length (above ++ slot_in item level ∷ [])) (slots_of x) ≡ above ++ slot_in item level ∷ []) item []
          (subst (λ (l : List Hashed). IsPassed (above ++ slot_in item level ∷ []) l) run behind) in
          let stands : StandsBehind (above ++ number ∷ []) (Some e.name) =
          stands_behind (above ++ number ∷ []) item e.name (hashed.hash_is ∙ ap (λ (x : NewEntry). name_hash x.name) (sym at))
          (subst (λ (n : ℕ). take (length (above ++ n ∷ [])) (slots_of item) ≡ above ++ n ∷ []) (sym number_is) mine) in
          so_far_more es dags above order start end links bits h.sections (entry_slot number e item (dags item.index)) new_links new_bits
          (h.so_far dags above leads deep passed) (entry_made es dags above number item e at good lead stands) le (sym run) links_are used;
      low = λ d lt. at_least (big_endian new_bits) (number + 1) (slot_in (get_or order end d) level) low (next_above es order level start end number s d lt);
      few_here = λ d lt. (let up = next_above es order level start end number s d lt in omega (arith, up, count, below, number_is));
      few = omega (arith, count, below, number_is, fits);
      good = subst (All IsShardLink) (sym links_are) (All-push IsShardLink links (entry_link_of number e) h.good (record { short = (let short = good.short in omega arith); plain = good.plain }));
      light =
          (let sums = ap (sum_by tsize_in) links_are ∙ sum_by_push tsize_in links (entry_link_of number e) in
          let parts = tsizes_more es order start end le ∙ ap (λ (l : List Hashed). tsizes_in es (take start order) + tsizes_in es l) run in
          let mine : tsizes_in es (item ∷ []) ≡ e.tsize = (let f = ap (λ (x : NewEntry). x.tsize) at in omega (arith, f)) in
          entry_light (sum_by tsize_in links) (sum_by tsize_in new_links) e.tsize (tsizes_in es (take start order)) (tsizes_in es (take end order)) (131072 * (7 - level)) start end h.light sums
          (omega (arith, parts, mine)) (omega arith));
    }

-- ---- a slot with a child shard

pub child_next : {S : Type 0} → (m : KeepMeaning S) → Joins m → KeepingJoins → (before now after : S) (es : List NewEntry) (order : List Hashed) (level start end number : ℕ) (links new_links : List NewEntry) (bits new_bits : List ℕ) (made : Made)
    → IsMaking m before now es order level start links bits → IsStep es order level start end number → 2 ≤ end - start
    → MakesShard es (slice_range order start end) (level + 1) made (kept_in m now after)
    → made.tsize ≤ tsizes_in es (slice_range order start end) + shard_room (level + 1) (length (slice_range order start end)) → made.cid.hash ≡ Sha256
    → new_links ≡ links ++ child_link_of number made ∷ [] → used_slots new_bits ≡ used_slots bits ++ number ∷ [] → big_endian new_bits < 2 ^ (number + 1)
    → IsMaking m before after es order level end new_links new_bits
child_next m joins stores before now after es order level start end number links new_links bits new_bits made h s many makes light plain links_are used low =
    let none : Hashed = record { hash = 0; index = 0 } in
    let begins = s.run.begins in
    let ends = s.run.ends in
    let le : start ≤ end = omega arith in
    let run = slice_range order start end in
    let fits = number_fits es order level start end number s in
    let len : length run ≡ end - start = length_range order start end le s.run.ends in
    let count : length new_links ≡ length links + 1 = ap length links_are ∙ length_push links (child_link_of number made) in
    let below = h.few_here none (omega arith) in
    let number_is = s.number_is none in
    let deeper = run_deeper s.fits es order s.is_order s.above level s.low s.deep s.passed start end s.run many in
    record {
      inside = s.run.ends;
      sections = h.sections ++ makes.sections;
      keeps = keeps_both m joins stores before now after h.sections makes.sections h.keeps makes.keeps;
      behind_links = shards_behind es h.sections makes.sections h.behind_links makes.behind_links;
      linked = linked_more es h.sections makes.sections links new_links (child_link_of number made) links_are h.linked
          (child_known es h.sections makes.sections made.cid makes.root);
      so_far = λ dags above leads deep passed.
          let behind = subst (λ (n : ℕ). IsPassed (above ++ n ∷ []) run) (sym number_is) (run_passed s.fits es order s.is_order above level s.low deep passed start end none s.run) in
          let deeply : length (above ++ number ∷ []) ≡ level + 1 = length-append above (number ∷ []) ∙ ap (λ (n : ℕ). n + 1) deep in
          let shard = makes.shard dags (above ++ number ∷ []) (all_range (LeadsTo es dags) order start end le s.run.ends leads) deeply behind in
          so_far_more es dags above order start end links bits h.sections
          (child_slot number run made (shard_dag es dags run (above ++ number ∷ []) made makes.sections shard) makes.sections) new_links new_bits
          (h.so_far dags above leads deep passed) (child_made es dags above number run made makes.sections shard (omega (arith, len))) le refl links_are used;
      low = λ d lt. at_least (big_endian new_bits) (number + 1) (slot_in (get_or order end d) level) low (next_above es order level start end number s d lt);
      few_here = λ d lt. (let up = next_above es order level start end number s d lt in omega (arith, up, count, below, number_is));
      few = omega (arith, count, below, number_is, fits);
      good = subst (All IsShardLink) (sym links_are) (All-push IsShardLink links (child_link_of number made) h.good (record { short = omega arith; plain = plain }));
      light =
          (let sums = ap (sum_by tsize_in) links_are ∙ sum_by_push tsize_in links (child_link_of number made) in
          child_light (sum_by tsize_in links) (sum_by tsize_in new_links) made.tsize (tsizes_in es (take start order)) (tsizes_in es run) (tsizes_in es (take end order))
          (131072 * (7 - (level + 1))) (131072 * (7 - level)) start (length run) end h.light sums (tsizes_more es order start end le) (omega (arith, len)) (omega (arith, len)) (omega (arith, deeper)) light);
    }

-- what the child shard asks
pub child_order : (es : List NewEntry) (order : List Hashed) (level start end number : ℕ) → IsStep es order level start end number → IsOrder es (slice_range order start end)
child_order es order level start end number s = run_order s.fits es order s.is_order s.above level s.low s.deep s.passed start end s.run

pub child_level : (es : List NewEntry) (order : List Hashed) (level start end number : ℕ) → IsStep es order level start end number → 2 ≤ end - start → level + 1 < 8
child_level es order level start end number s many = run_deeper s.fits es order s.is_order s.above level s.low s.deep s.passed start end s.run many

pub child_passed : (es : List NewEntry) (order : List Hashed) (level start end number : ℕ) → IsStep es order level start end number
    → (above : List ℕ) × (length above ≡ level + 1) × IsPassed above (slice_range order start end)
child_passed es order level start end number s =
    let none : Hashed = record { hash = 0; index = 0 } in (
      s.above ++ slot_in (get_or order start none) level ∷ [],
      length-append s.above (slot_in (get_or order start none) level ∷ []) ∙ ap (λ (n : ℕ). n + 1) s.deep,
      run_passed s.fits es order s.is_order s.above level s.low s.deep s.passed start end none s.run,
    )

pub child_few : (es : List NewEntry) (order : List Hashed) (level start end number : ℕ) → IsStep es order level start end number → length order < 4294967296 → length (slice_range order start end) < 4294967296
child_few es order level start end number s few =
    let begins = s.run.begins in
    let ends = s.run.ends in
    let len = length_range order start end (omega arith) s.run.ends in
    omega (arith, len, few)

pub child_tsizes : (es : List NewEntry) (order : List Hashed) (level start end number most : ℕ) → IsStep es order level start end number → tsizes_in es order ≤ most → tsizes_in es (slice_range order start end) ≤ most
child_tsizes es order level start end number most s h =
    let begins = s.run.begins in
    let parts = tsizes_more es order start end (omega arith) in
    let all = sum_by-take-le (λ (x : Hashed). (entry_at es x.index).tsize) order end in
    omega (arith, parts, all, h)

-- ---- a fault

pub stops_here : {S : Type 0} → (m : KeepMeaning S) → Joins m → KeepingJoins → (before now after : S) (es : List NewEntry) (order : List Hashed) (level start : ℕ) (links : List NewEntry) (bits : List ℕ) (fault : KeepFault)
    → IsMaking m before now es order level start links bits → StopsAfter [] fault (kept_in m now after) → StopsShard es order level fault (kept_in m before after)
stops_here m joins stores before now after es order level start links bits fault h stops = record {
  sections = h.sections ++ [];
  stops = stops_behind m joins stores before now after h.sections [] fault h.keeps stops;
  behind_links = subst (AreBehindLinks (entry_cids es)) (sym (append-nil h.sections)) h.behind_links;
  each = λ dags above leads deep passed.
      let so_far = h.so_far dags above leads deep passed in
      subst (All (IsOfShard es dags)) (so_far.own_are ∙ sym (append-nil h.sections)) (all_of_shards es dags above so_far.slots so_far.each);
}

pub stops_child : {S : Type 0} → (m : KeepMeaning S) → Joins m → KeepingJoins → (before now after : S) (es : List NewEntry) (order : List Hashed) (level start end number : ℕ) (links : List NewEntry) (bits : List ℕ) (fault : KeepFault)
    → IsMaking m before now es order level start links bits → IsStep es order level start end number
    → StopsShard es (slice_range order start end) (level + 1) fault (kept_in m now after) → StopsShard es order level fault (kept_in m before after)
stops_child m joins stores before now after es order level start end number links bits fault h s stops =
    let none : Hashed = record { hash = 0; index = 0 } in
    let begins = s.run.begins in
    let le : start ≤ end = omega arith in
    record {
      sections = h.sections ++ stops.sections;
      stops = stops_behind m joins stores before now after h.sections stops.sections fault h.keeps stops.stops;
      behind_links = shards_behind es h.sections stops.sections h.behind_links stops.behind_links;
      each = λ dags above leads deep passed.
          let so_far = h.so_far dags above leads deep passed in
          let deeply : length (above ++ slot_in (get_or order start none) level ∷ []) ≡ level + 1 = length-append above (slot_in (get_or order start none) level ∷ []) ∙ ap (λ (n : ℕ). n + 1) deep in
          All-append (IsOfShard es dags) h.sections stops.sections
          (subst (All (IsOfShard es dags)) so_far.own_are (all_of_shards es dags above so_far.slots so_far.each))
          (stops.each dags (above ++ slot_in (get_or order start none) level ∷ []) (all_range (LeadsTo es dags) order start end le s.run.ends leads) deeply
          (run_passed s.fits es order s.is_order above level s.low deep passed start end none s.run));
    }

-- memory was wanted for the link of a child shard that was kept
pub stops_behind_child : {S : Type 0} → (m : KeepMeaning S) → ((s : S) → m.kept s s []) → Joins m → KeepingJoins → (before now after : S) (es : List NewEntry) (order : List Hashed) (level start end number : ℕ) (links : List NewEntry) (bits : List ℕ) (made : Made) (fault : KeepFault)
    → IsMaking m before now es order level start links bits → IsStep es order level start end number
    → MakesShard es (slice_range order start end) (level + 1) made (kept_in m now after) → fault ≡ faults.OutOfMemory → StopsShard es order level fault (kept_in m before after)
stops_behind_child m rests joins stores before now after es order level start end number links bits made fault h s makes e =
    let none : Hashed = record { hash = 0; index = 0 } in
    let begins = s.run.begins in
    let le : start ≤ end = omega arith in
    let run = slice_range order start end in
    let all = keeps_both m joins stores before now after h.sections makes.sections h.keeps makes.keeps in
    record {
      sections = (h.sections ++ makes.sections) ++ [];
      stops = subst (λ (f : KeepFault). StopsAfter ((h.sections ++ makes.sections) ++ []) f (kept_in m before after)) (sym e)
          (stops_behind m joins stores before after after (h.sections ++ makes.sections) [] faults.OutOfMemory all (same_stops m rests after));
      behind_links = subst (AreBehindLinks (entry_cids es)) (sym (append-nil (h.sections ++ makes.sections)))
          (shards_behind es h.sections makes.sections h.behind_links makes.behind_links);
      each = λ dags above leads deep passed.
          let so_far = h.so_far dags above leads deep passed in
          let deeply : length (above ++ slot_in (get_or order start none) level ∷ []) ≡ level + 1 = length-append above (slot_in (get_or order start none) level ∷ []) ∙ ap (λ (n : ℕ). n + 1) deep in
          let shard = makes.shard dags (above ++ slot_in (get_or order start none) level ∷ []) (all_range (LeadsTo es dags) order start end le s.run.ends leads) deeply
          (run_passed s.fits es order s.is_order above level s.low deep passed start end none s.run) in
          subst (All (IsOfShard es dags)) (sym (append-nil (h.sections ++ makes.sections)))
          (All-append (IsOfShard es dags) h.sections makes.sections
          (subst (All (IsOfShard es dags)) so_far.own_are (all_of_shards es dags above so_far.slots so_far.each))
          (of_shards es dags run (above ++ slot_in (get_or order start none) level ∷ []) made makes.sections shard makes.sections (λ x has. has)));
    }
