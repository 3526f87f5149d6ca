use Rattle.std.proofs.Common.{◌≡◌, ◌∷◌, [], ℕ, List, Some, None, ap, sym, subst, ◌∙◌}
use Rattle.std.specs.Map.{lookup}
use Rattle.indexmap.proofs.CallerLemmas.{insert_entry-new}
use Rattle.tg_model.specs.Stores.{AreKeptAs}
use Rattle.tg_store.specs.declared.key.Key.{Key}
use Rattle.tg_store.specs.Entries.{AreGood, HoldsMore, store_of}
use Rattle.tg_store.specs.Keys.{key_of, same_key}
use Rattle.tg_store.proofs.MemKeeping.{added, again, good_more, has_sha256, inserted, is_none_found, is_some_found, key_is}
use Rattle.tg_store.proofs.mem_store.MemStoreKeep.keep.Goals as goal

pub returns-then-contains_key-clause-kept : goal.returns-then-contains_key-clause-kept
returns-then-contains_key-clause-kept c =
    let key : key_of c.args.cid ≡ c.in-Some.key = key_is c.args.cid c.in-Some.key (sym c.of.ensures ∙ c.in-Some.is) in
    let there = is_some_found (lookup (same_key c.in-Some.key) c.self.inside.blocks.entries) (sym c.contains_key.ensures ∙ c.if-contains_key.true) in
    let found : lookup (same_key (key_of c.args.cid)) c.args.self.now ≡ Some there.0 =
    ap (λ (k : Key). lookup (same_key k) c.args.self.now) key ∙ (ap (lookup (same_key c.in-Some.key)) (sym c.self.view_is) ∙ there.1) in
    let good : AreGood (λ block. block) c.args.self.now = subst (AreGood (λ block. block)) c.self.view_is c.self.invariant in
    let both = again c.args.self.now c.args.cid c.args.block.now there.0 (has_sha256 c.args.cid c.in-Some.key (sym c.of.ensures ∙ c.in-Some.is)) found good in
    record { moved = both.0; stored = both.1 }

pub invariant_of-self : goal.invariant_of-self
invariant_of-self c =
    let key : key_of c.args.cid ≡ c.in-Some.key = key_is c.args.cid c.in-Some.key (sym c.of.ensures ∙ c.in-Some.is) in
    let none : lookup (same_key c.in-Some.key) c.self.inside.blocks.entries ≡ None =
    is_none_found (lookup (same_key c.in-Some.key) c.self.inside.blocks.entries) (sym c.contains_key.ensures ∙ c.if-contains_key.false) in
    let entries = inserted c.args.self.now c.self.inside.blocks.entries c.insert.new.self.entries c.args.cid c.in-Some.key c.in-Ok.block c.args.block.now c.self.view_is key c.in-Ok.ensures
    (c.in-Ok-insert.ensures.entries ∙ insert_entry-new same_key c.self.inside.blocks c.in-Some.key c.in-Ok.block none) in
    subst (AreGood (λ block. block)) (sym entries)
    (good_more c.args.self.now c.args.cid c.args.block.now (has_sha256 c.args.cid c.in-Some.key (sym c.of.ensures ∙ c.in-Some.is)) c.requires.named c.requires.small (subst (AreGood (λ block. block)) c.self.view_is c.self.invariant))

pub returns-in-Ok-insert-clause-kept : goal.returns-in-Ok-insert-clause-kept
returns-in-Ok-insert-clause-kept c =
    let key : key_of c.args.cid ≡ c.in-Some.key = key_is c.args.cid c.in-Some.key (sym c.of.ensures ∙ c.in-Some.is) in
    let none : lookup (same_key c.in-Some.key) c.self.inside.blocks.entries ≡ None =
    is_none_found (lookup (same_key c.in-Some.key) c.self.inside.blocks.entries) (sym c.contains_key.ensures ∙ c.if-contains_key.false) in
    let entries = inserted c.args.self.now c.self.inside.blocks.entries c.insert.new.self.entries c.args.cid c.in-Some.key c.in-Ok.block c.args.block.now c.self.view_is key c.in-Ok.ensures
    (c.in-Ok-insert.ensures.entries ∙ insert_entry-new same_key c.self.inside.blocks c.in-Some.key c.in-Ok.block none) in
    let absent : lookup (same_key (key_of c.args.cid)) c.args.self.now ≡ None =
    ap (λ (k : Key). lookup (same_key k) c.args.self.now) key ∙ (ap (lookup (same_key c.in-Some.key)) (sym c.self.view_is) ∙ none) in
    let both = added c.args.self.now c.args.cid c.args.block.now (has_sha256 c.args.cid c.in-Some.key (sym c.of.ensures ∙ c.in-Some.is)) absent c.requires.named c.requires.small in
    record {
      moved = subst (λ (l : List (Key × List ℕ)). HoldsMore c.args.self.now l (record { cid = c.args.cid; block = c.args.block.now } ∷ [])) (sym entries) both.0;
      stored = subst (λ (l : List (Key × List ℕ)). AreKeptAs (Some (store_of (λ block. block) c.args.self.now)) (Some (store_of (λ block. block) l)) (record { cid = c.args.cid; block = c.args.block.now } ∷ []))
          (sym entries) both.1;
    }

pub invariant_of-self-2 : goal.invariant_of-self-2
invariant_of-self-2 c = subst (AreGood (λ block. block)) (sym c.in-Err.ensures.err) c.self.invariant
