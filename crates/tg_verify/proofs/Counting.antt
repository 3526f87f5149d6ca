-- What is counted with one more block, and which limits it passes.
use Rattle.std.proofs.Common.{[], Bool, List, ap, arith, false, length, length-append, map, refl, true, ℕ, ◌+◌, ◌-◌, ◌++◌, ◌<◌, ◌^◌, ◌∙◌, ◌∷◌, ◌≡◌, ◌≤◌, ◌&&◌, ◌||◌, cond, not}
use Rattle.std.proofs.lemmas.Grind.{flat_map-append}
use Rattle.std.proofs.lemmas.List.Sums.{sum_by-append}
use Rattle.std.proofs.lemmas.List.{map-append}
use Rattle.std.specs.List.{flat_map}
use Rattle.std.specs.Prelude.{sum}
use Rattle.tg_cid.specs.Cid.{CidParts}
use Rattle.tg_model.specs.Counts.{if_once, met_line}
use Rattle.tg_model.specs.Dag.{Section}
use Rattle.tg_model.specs.LimitNumbers.{AreWithin, LimitNumbers, standard}
use Rattle.tg_model.specs.Queries.{QueryParts}
use Rattle.tg_model.specs.Traversal.{asked, has_cid, is_asked, is_sent_behind, sent, unrepeated}
use Rattle.tg_model.specs.declared.limits.LimitKind.TheVariants as kinds
use Rattle.tg_model.specs.declared.limits.LimitKind.{LimitKind}
use Rattle.tg_model_laws.specs.SentSections.{asked_append, asked_behind, sent_front, sent_step, taken_if}
use Rattle.tg_traversal.specs.Left.{WantedAt}
use Rattle.tg_model_laws.specs.TakenBlocks.{opened_by}
use Rattle.tg_model_laws.specs.Stages.{Given, up_to_next, with_place}
use Rattle.tg_model_laws.specs.Tasks.{Task, entries_now, text_now}
use Rattle.tg_verify.specs.Counting.{AreUnpassed, HasCounted, IsCountedOn, IsFirstPassed, blocks_added, bytes_added, counts_given, numbers_of, reused_added}
use Rattle.tg_verify.specs.State.{told}
use Rattle.tg_verify.specs.declared.counts.Counts.{Counts}
use Rattle.tg_verify.specs.declared.counts.Source.{Source}
use Rattle.tg_verify.specs.declared.counts.Source.TheVariants as sources

-- ---- where a block comes from

-- a section brings it that is sent behind these, or it is remembered, or its CID isn't asked for
abbrev pub IsFrom : QueryParts → List Section → Section → Source → Type 0
IsFrom q sections section sources.Section = is_sent_behind q sections section.cid ≡ true
IsFrom q sections section sources.Remembered = (is_asked q section.cid ≡ true) × (is_sent_behind q sections section.cid ≡ false)
IsFrom q sections section sources.Digest = is_asked q section.cid ≡ false

pub unasked_unsent : (q : QueryParts) (sections : List Section) (cid : CidParts) → is_asked q cid ≡ false → is_sent_behind q sections cid ≡ false
unasked_unsent q sections cid e = by (is_asked q cid) e
  where
    by : (asks : Bool) → asks ≡ false → (asks && (q.dups || not (has_cid cid sections))) ≡ false
    by true e = cc
    by false e = refl

-- it adds so many sections to those that are sent, of so many bytes, and so many to those that are asked for
abbrev asked_added : Source → ℕ
asked_added sources.Section = 1
asked_added sources.Remembered = 1
asked_added sources.Digest = 0

abbrev sizes : List Section → List ℕ
sizes sections = map (λ section. length section.block) sections

sum-append : (xs ys : List ℕ) → sum (xs ++ ys) ≡ sum xs + sum ys
sum-append xs ys = sum_by-append (λ (x : ℕ). x) xs ys

sizes_more : (sections : List Section) (section : Section) → sum (sizes (sections ++ section ∷ [])) ≡ sum (sizes sections) + length section.block
sizes_more sections section =
    ap sum (map-append (λ (s : Section). length s.block) sections (section ∷ [])) ∙ sum-append (sizes sections) (length section.block ∷ []) ∙ omega arith

record IsMoreBy (q : QueryParts) (opened : List Section) (section : Section) (source : Source) : Type 0 where
  sent_more : length (sent q (opened ++ section ∷ [])) ≡ length (sent q opened) + blocks_added false source
  size_more : sum (sizes (sent q (opened ++ section ∷ []))) ≡ sum (sizes (sent q opened)) + bytes_added false source section.block
  asked_more : length (asked q (opened ++ section ∷ [])) ≡ length (asked q opened) + asked_added source

none_sent : (q : QueryParts) → length (sent q []) ≡ 0
none_sent q = by q.dups
  where
    by : (dups : Bool) → length (unrepeated dups []) ≡ 0
    by true = refl
    by false = refl

-- no more are sent than asked for
sent_fewer : (q : QueryParts) (opened : List Section) → length (sent q opened) ≤ length (asked q opened)
sent_fewer q opened =
    let front = sent_front q [] opened in
    let is : length (sent q opened) ≡ length (sent q []) + length front.0 = ap (λ (l : List Section). length l) front.1 ∙ length-append (sent q []) front.0 in
    omega (arith, is, none_sent q, front.2)

asked_one : (q : QueryParts) (opened : List Section) (section : Section) (b : Bool) → is_asked q section.cid ≡ b
    → length (asked q (opened ++ section ∷ [])) ≡ length (asked q opened) + cond b 1 0
asked_one q opened section b e =
    ap (λ (l : List Section). length l) (asked_append q opened (section ∷ [])) ∙ length-append (asked q opened) (asked q (section ∷ []))
    ∙ ap (λ (n : ℕ). length (asked q opened) + n) (by b e)
  where
    by : (b : Bool) → is_asked q section.cid ≡ b → length (asked q (section ∷ [])) ≡ cond b 1 0
    by true e = ap (λ (b : Bool). length (cond b (section ∷ []) [])) e
    by false e = ap (λ (b : Bool). length (cond b (section ∷ []) [])) e

sent_one : (q : QueryParts) (opened : List Section) (section : Section) (b : Bool) → is_sent_behind q (sent q opened) section.cid ≡ b
    → sent q (opened ++ section ∷ []) ≡ taken_if b (sent q opened) section
sent_one q opened section b e = sent_step q opened section ∙ ap (λ (b : Bool). taken_if b (sent q opened) section) e

is_more : (q : QueryParts) (opened : List Section) (section : Section) (source : Source) → IsFrom q (sent q opened) section source → IsMoreBy q opened section source
is_more q opened section sources.Section e =
    let s = sent_one q opened section true e in
    record {
      sent_more = ap (λ (l : List Section). length l) s ∙ length-append (sent q opened) (section ∷ []);
      size_more = ap (λ (l : List Section). sum (sizes l)) s ∙ sizes_more (sent q opened) section;
      asked_more = asked_one q opened section true (asked_behind q (sent q opened) section.cid e);
    }
is_more q opened section sources.Remembered (asks, e) =
    let s = sent_one q opened section false e in
    record {
      sent_more = omega (arith, ap (λ (l : List Section). length l) s);
      size_more = omega (arith, ap (λ (l : List Section). sum (sizes l)) s);
      asked_more = asked_one q opened section true asks;
    }
is_more q opened section sources.Digest e =
    let s = sent_one q opened section false (unasked_unsent q (sent q opened) section.cid e) in
    record {
      sent_more = omega (arith, ap (λ (l : List Section). length l) s);
      size_more = omega (arith, ap (λ (l : List Section). sum (sizes l)) s);
      asked_more = asked_one q opened section false e;
    }

-- ---- numbers as they are told

told_more : (shown n more m : ℕ) → shown ≡ told n → m ≡ n + more → told (shown + more) ≡ told m
told_more shown n more m e f = omega (arith, e, f)

once_blocks : (dups : Bool) (source : Source) (old new n m : ℕ) → old ≡ told (if_once dups n) → new ≡ told (old + blocks_added dups source) → m ≡ n + blocks_added false source
    → new ≡ told (if_once dups m)
once_blocks true source old new n m e f more = f ∙ told_more old 0 0 0 e refl
once_blocks false source old new n m e f more = f ∙ told_more old n (blocks_added false source) m e more

once_bytes : (dups : Bool) (source : Source) (block : List ℕ) (old new n m : ℕ) → old ≡ told (if_once dups n) → new ≡ told (old + bytes_added dups source block)
    → m ≡ n + bytes_added false source block → new ≡ told (if_once dups m)
once_bytes true source block old new n m e f more = f ∙ told_more old 0 0 0 e refl
once_bytes false source block old new n m e f more = f ∙ told_more old n (bytes_added false source block) m e more

reused_more : (source : Source) (asked_n sent_n asked_m sent_m : ℕ) → asked_m ≡ asked_n + asked_added source → sent_m ≡ sent_n + blocks_added false source → sent_n ≤ asked_n
    → asked_m - sent_m ≡ (asked_n - sent_n) + reused_added false source
reused_more sources.Section asked_n sent_n asked_m sent_m e f le = omega (arith, e, f, le)
reused_more sources.Remembered asked_n sent_n asked_m sent_m e f le = omega (arith, e, f, le)
reused_more sources.Digest asked_n sent_n asked_m sent_m e f le = omega (arith, e, f, le)

once_reused : (dups : Bool) (source : Source) (old new n m : ℕ) → old ≡ told (if_once dups n) → new ≡ told (old + reused_added dups source) → m ≡ n + reused_added false source
    → new ≡ told (if_once dups m)
once_reused true source old new n m e f more = f ∙ told_more old 0 0 0 e refl
once_reused false source old new n m e f more = f ∙ told_more old n (reused_added false source) m e more

-- ---- a block was opened at a place, with what comes up to the next one

pub counted_on : (q : QueryParts) (given : Given) (at : WantedAt) (section : Section) (text said : List ℕ) (tasks : List (Task CidParts)) (source : Source) (old new : Counts)
    → IsFrom q (sent q (opened_by given)) section source → said ≡ text ++ text_now tasks → HasCounted q old given
    → IsCountedOn q.dups source section.block said (entries_now tasks) old new → HasCounted q new (up_to_next tasks (with_place at.want section text given))
counted_on q given at section text said tasks source old new from said_is h on =
    let opened = opened_by given in
    let next = up_to_next tasks (with_place at.want section text given) in
    let is : opened_by next ≡ opened ++ section ∷ [] = map-append (λ p. p.section) given.places _ in
    let more = is_more q opened section source from in
    let sent_is : length (sent q (opened_by next)) ≡ length (sent q opened) + blocks_added false source = ap (λ (l : List Section). length (sent q l)) is ∙ more.sent_more in
    let size_is : sum (sizes (sent q (opened_by next))) ≡ sum (sizes (sent q opened)) + bytes_added false source section.block =
    ap (λ (l : List Section). sum (sizes (sent q l))) is ∙ more.size_more in
    let asked_is : length (asked q (opened_by next)) ≡ length (asked q opened) + asked_added source = ap (λ (l : List Section). length (asked q l)) is ∙ more.asked_more in
    let said_len : length said ≡ length text + length (text_now tasks) = ap (λ (l : List ℕ). length l) said_is ∙ length-append text (text_now tasks) in
    let text_len : length next.text ≡ (length given.text + length text) + length (text_now tasks) =
    length-append (given.text ++ text) (text_now tasks) ∙ ap (λ (n : ℕ). n + length (text_now tasks)) (length-append given.text text) in
    let met_len : length (flat_map met_line next.met) ≡ length (flat_map met_line given.met) + length (flat_map met_line (entries_now tasks)) =
    ap (λ (l : List ℕ). length l) (flat_map-append met_line given.met (entries_now tasks)) ∙ length-append (flat_map met_line given.met) (flat_map met_line (entries_now tasks)) in
    record {
      met = on.met given.met h.met;
      output = on.output ∙ told_more old.output (counts_given q given).output (length said + length (flat_map met_line (entries_now tasks))) (counts_given q next).output h.output
          (omega (arith, said_len, text_len, met_len));
      seen_blocks = once_blocks q.dups source old.seen_blocks new.seen_blocks (length (sent q opened)) (length (sent q (opened_by next))) h.seen_blocks on.seen_blocks sent_is;
      seen_bytes = once_bytes q.dups source section.block old.seen_bytes new.seen_bytes (sum (sizes (sent q opened))) (sum (sizes (sent q (opened_by next)))) h.seen_bytes on.seen_bytes size_is;
      reused = once_reused q.dups source old.reused new.reused (length (asked q opened) - length (sent q opened)) (length (asked q (opened_by next)) - length (sent q (opened_by next)))
          h.reused on.reused
          (reused_more source (length (asked q opened)) (length (sent q opened)) (length (asked q (opened_by next))) (length (sent q (opened_by next))) asked_is sent_is (sent_fewer q opened));
    }

-- ---- limits, which are small

untold : (n shown limit most : ℕ) → shown ≡ told n → most < 2 ^ 64 - 1 → limit ≤ most → shown ≤ limit → n ≤ limit
untold n shown limit most e small within le = omega (arith, e, small, within, le)

over_told : (n shown limit : ℕ) → shown ≡ told n → limit < shown → limit < n
over_told n shown limit e over = omega (arith, e, over)

module _ (q : QueryParts) (limits : LimitNumbers) (small : AreWithin standard limits) (counts : Counts) (given : Given) (h : HasCounted q counts given) where
  entries_within : counts.entries ≤ limits.entries → (counts_given q given).entries ≤ limits.entries
  entries_within le = untold (counts_given q given).entries counts.entries limits.entries standard.entries h.met.entries (omega arith) small.entries le

  names_within : counts.names ≤ limits.names → (counts_given q given).names ≤ limits.names
  names_within le = untold (counts_given q given).names counts.names limits.names standard.names h.met.names (omega arith) small.names le

  output_within : counts.output ≤ limits.output → (counts_given q given).output ≤ limits.output
  output_within le = untold (counts_given q given).output counts.output limits.output standard.output h.output (omega arith) small.output le

  blocks_within : counts.seen_blocks ≤ limits.seen_blocks → (counts_given q given).seen_blocks ≤ limits.seen_blocks
  blocks_within le = untold (counts_given q given).seen_blocks counts.seen_blocks limits.seen_blocks standard.seen_blocks h.seen_blocks (omega arith) small.seen_blocks le

  bytes_within : counts.seen_bytes ≤ limits.seen_bytes → (counts_given q given).seen_bytes ≤ limits.seen_bytes
  bytes_within le = untold (counts_given q given).seen_bytes counts.seen_bytes limits.seen_bytes standard.seen_bytes h.seen_bytes (omega arith) small.seen_bytes le

  reused_within : counts.reused ≤ limits.reused → (counts_given q given).reused ≤ limits.reused
  reused_within le = untold (counts_given q given).reused counts.reused limits.reused standard.reused h.reused (omega arith) small.reused le

  pub is_unpassed : AreUnpassed limits (numbers_of counts) → AreUnpassed limits (counts_given q given)
  is_unpassed u = record {
    entries = entries_within u.entries;
    names = names_within u.names;
    output = output_within u.output;
    seen_blocks = blocks_within u.seen_blocks;
    seen_bytes = bytes_within u.seen_bytes;
    reused = reused_within u.reused;
  }

  pub is_passed : (kind : LimitKind) → IsFirstPassed limits (numbers_of counts) kind → IsFirstPassed limits (counts_given q given) kind
  is_passed kinds.Block p = p
  is_passed kinds.Depth p = p
  is_passed kinds.Received p = p
  is_passed kinds.Entries p = over_told (counts_given q given).entries counts.entries limits.entries h.met.entries p
  is_passed kinds.Names (a, p) = (entries_within a, over_told (counts_given q given).names counts.names limits.names h.met.names p)
  is_passed kinds.Output (a, b, p) = (entries_within a, names_within b, over_told (counts_given q given).output counts.output limits.output h.output p)
  is_passed kinds.SeenBlocks (a, b, c, p) =
      (entries_within a, names_within b, output_within c, over_told (counts_given q given).seen_blocks counts.seen_blocks limits.seen_blocks h.seen_blocks p)
  is_passed kinds.SeenBytes (a, b, c, d, p) =
      (entries_within a, names_within b, output_within c, blocks_within d, over_told (counts_given q given).seen_bytes counts.seen_bytes limits.seen_bytes h.seen_bytes p)
  is_passed kinds.Reused (a, b, c, d, e, p) =
      (entries_within a, names_within b, output_within c, blocks_within d, bytes_within e, over_told (counts_given q given).reused counts.reused limits.reused h.reused p)
