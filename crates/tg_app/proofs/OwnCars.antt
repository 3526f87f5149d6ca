-- What `export` puts of a pack that holds a sound DAG: the CAR of the DAG's own traversal.
use Rattle.std.proofs.Common.{List, None, Ok, Option, Some, ap, arith, inl, inr, subst, sym, ℕ, [], ◌∙◌, ◌∷◌, ◌≡◌}
use Rattle.std.specs.Prelude.{⊤}
use Rattle.tg_app.proofs.OwnBlocks.{one_each_of}
use Rattle.tg_commands.specs.Exports.{Exported, HoldsDag}
use Rattle.tg_commands.specs.Verify.{IsItsCar}
use Rattle.tg_cid.specs.Cid.{CidParts}
use Rattle.tg_client.specs.Received.{IsCarOf}
use Rattle.tg_export.specs.Cars.{CarEnds}
use Rattle.tg_export.specs.Cars as export_cars
use Rattle.tg_files.specs.Packs.{PackStep}
use Rattle.tg_model.specs.Answer.{answer}
use Rattle.tg_model.specs.Dag.{Dag, Section, root_cid}
use Rattle.tg_model.specs.LimitNumbers.{standard}
use Rattle.tg_model.specs.PathWalk.{stopped, gone, whole}
use Rattle.tg_model.specs.Queries.{QueryParts}
use Rattle.tg_model.specs.Sound.{IsSound}
use Rattle.tg_model.specs.StoreView.{store_view}
use Rattle.tg_model.specs.Stores.{Store}
use Rattle.tg_model.specs.Traversal.{Traversal, block_list, sections_of, sent, traversal}
use Rattle.tg_model_laws.specs.Depths.{CutsAtDepths, ShowsDownTo, down_to}
use Rattle.tg_model_laws.specs.Stores.{Holds}
use Rattle.tg_parts.specs.PartLaws.{OpenedAreBlocks}
use Rattle.tg_store.specs.AttachedPacks.{IsAttachedIn}
use Rattle.tg_store.specs.Attaching.{IsAttached}
use Rattle.tg_streams.specs.Streams.{Output, Put}
use Rattle.tg_model_laws.specs.Stages.{Given, ending}
use Rattle.tg_model_laws.specs.StoreWalks.{WalkEnds}
use Rattle.tg_verify.specs.Laws.{IsWithinLimits}
use Rattle.tg_walk.specs.Walks.{HasEnded, max_depth}

-- what is attached of one content is the same at every CID
abbrev pub AttachAlike : Type 0
AttachAlike = (content : List ℕ) (s t : Store) (cid : CidParts) → IsAttached content s → IsAttached content t → s cid ≡ t cid

-- a CAR that is exported is one of its sections
client_car : (root : CidParts) (sections : List Section) (bytes : List ℕ) → export_cars.IsCarOf root sections bytes → IsCarOf bytes sections
client_car root sections bytes car =
    ((0 ∷ car.header_is.0) ∷ [], record { header = car.header; rest = car.rest; whole = car.whole; header_is = car.header_is.2; sections_are = car.sections_are })

-- a walk that comes through gives the whole traversal of the DAG that the store holds
module _ (opened : OpenedAreBlocks) (cuts : CutsAtDepths) (shows : ShowsDownTo) (q : QueryParts) (d : Dag) (sound : IsSound d) (root : root_cid d ≡ q.root) where
  walked_through : (store : Store) (given : Given) → Holds store d → WalkEnds q store max_depth given whole → traversal q d ≡ ending given whole
  walked_through store given holds ends =
      let shown : down_to max_depth 1 (store_view store q.root) ≡ down_to max_depth 1 d =
      subst (λ (cid : CidParts). down_to max_depth 1 (store_view store cid) ≡ down_to max_depth 1 d) root (shows store d max_depth sound holds (omega arith)) in
      let through : traversal q (down_to max_depth 1 d) ≡ ending given whole = ap (traversal q) (sym shown) ∙ ends.cut in
      elim (cuts q d max_depth sound).follows [
        | inl one ↦ sym one ∙ through
        | inr stops ↦ let no : stopped (gone stops.spot) ≡ whole = sym stops.end ∙ ap (λ (t : Traversal). t.end) through in absurd (cc)
      ]

  -- so its sections are the DAG's
  own_sections : (store : Store) (sections : List Section) → Holds store d → HasEnded q store max_depth sections whole → block_list q d ≡ sections
  own_sections store sections holds ended =
      let one : traversal q d ≡ ending ended.given whole = walked_through store ended.given holds ended.ends in
      ap (λ (t : Traversal). sent q (sections_of t.places)) one ∙ ended.gave

  module _ (alike : AttachAlike) (text : List ℕ) (answers : answer q d ≡ Some text) (few : IsWithinLimits q standard d) (out : Output) where
    -- what is put from the attached store is the DAG's own CAR
    own_car_put : (content : List ℕ) (told : Option Store) (store : Store) (done : ⊤) → IsAttachedIn (Some content) told → IsAttached content store → Holds store d → CarEnds q told out (Ok done)
        → (bytes : List ℕ) × Put bytes out × IsItsCar q d text bytes
    own_car_put content None store done none attached holds ends = absurd none
    own_car_put content (Some other) store done is attached holds ends =
        let same : store ≡ other = (λ i cid. alike content store other cid attached is i) in
        let own : block_list q d ≡ ends.sections = own_sections other ends.sections (subst (λ (s : Store). Holds s d) same holds) ends.is_so.1 in (
          ends.bytes,
          ends.is_done.put,
          record {
            sound = sound;
            root = root;
            answers = answers;
            one_each = one_each_of opened q d sound root store holds;
            is_car = subst (IsCarOf ends.bytes) (sym own) (client_car q.root ends.sections ends.bytes ends.car);
            within = few;
          },
        )

    -- an export that was done put the own CAR of the DAG that the pack holds
    pub own_car_of : (path : List ℕ) (step : PackStep) → HoldsDag step.content_old d → Exported path q step out
        → (bytes : List ℕ) × Put bytes out × IsItsCar q d text bytes
    own_car_of path step held exported =
        own_car_put held.bytes exported.ends.told held.store exported.done
        (subst (λ (content : Option (List ℕ)). IsAttachedIn content exported.ends.told) held.told exported.ends.attached)
        held.attached held.holds exported.ends.ends
