-- The entries of a batch so far.
use Rattle.std.proofs.Common.{arith, ◌≡◌, ℕ, ◌+◌, ◌≤◌, Bool, List, [], ◌∷◌, ◌++◌, Option, map, take, refl, sym, ap, ◌∙◌, subst}
use Rattle.std.specs.Prelude.{is_some}
use Rattle.std.proofs.lemmas.List.{map-append}
use Rattle.sample_key.specs.Counted.{Counted}
use Rattle.sample_key.specs.Sent.{Sent}
use Rattle.trace_model.specs.Attribution.{place_at}
use Rattle.trace_model.specs.Recording.{HasImage}
use Rattle.trace_model.specs.declared.notices.Place.{Place}
use Rattle.trace_model.specs.declared.notices.Record.{Record}
use Rattle.load_map.specs.declared.maps.LoadMap.{LoadMap}
use Rattle.load_map.specs.Maps.{StandsFor, Finds}
use Rattle.database_model.specs.Runs.{Drained}
use Rattle.run_model.specs.Daemon.{is_known}
use Rattle.profile_merge.specs.declared.owners.Owner.{Owner}
use Rattle.profile_merge.specs.Sums.{Collected, entries_add, AddsEntry, AddsEntries, HasSame}
use Rattle.profile_merge.specs.Gathering.{ImagesAreIn, EpochsAreUpTo, Gathers, drained, first_of}
use Rattle.profile_merge.proofs.Named.{gathers_more, images_more, epochs_more}

-- the first entries were added, and their flags are known
pub record SoFar (mappings : LoadMap) (epoch : ℕ) (entries : List Counted) (known : List Bool) (before after : Collected) : Type 0 where
  pub flags : (records : List Record) (at : ℕ) → StandsFor mappings (take at records) → known ≡ map (is_known records at) entries
  pub adds : (records : List Record) (at : ℕ) → StandsFor mappings (take at records) → AddsEntries epoch (place_at records at) entries before after
  pub epochs : (last : ℕ) → epoch ≤ last → EpochsAreUpTo last before → EpochsAreUpTo last after

pub none_so_far : (mappings : LoadMap) (epoch : ℕ) (g : Collected) → SoFar mappings epoch [] [] g g
none_so_far mappings epoch g = record {
  flags = λ records at stands. refl;
  adds = λ records at stands owner offset. omega arith;
  epochs = λ last upto within. within;
}

last_adds : (epoch : ℕ) (place : ℕ → ℕ → Option Place) (entries : List Counted) (c : Counted) (owner : Owner) (offset : ℕ)
    → entries_add epoch place (entries ++ c ∷ []) owner offset ≡ entries_add epoch place entries owner offset + entries_add epoch place (c ∷ []) owner offset
last_adds epoch place [] c owner offset = omega arith
last_adds epoch place (d ∷ entries) c owner offset = let more = last_adds epoch place entries c owner offset in omega (arith, more)

-- one entry more
pub one_more : (mappings : LoadMap) (epoch : ℕ) (entries : List Counted) (c : Counted) (o : Option Place) (known : List Bool) (before between after : Collected)
    → Finds mappings c.key.pid c.key.pc o → AddsEntry epoch o c between after → SoFar mappings epoch entries known before between
    → SoFar mappings epoch (entries ++ c ∷ []) (known ++ is_some o ∷ []) before after
one_more mappings epoch entries c o known before between after finds adds so = record {
  flags = λ records at stands.
      let place = finds (take at records) stands in
      ap (λ (k : List Bool). k ++ is_some o ∷ []) (so.flags records at stands)
      ∙ ap (λ (p : Option Place). map (is_known records at) entries ++ is_some p ∷ []) place
      ∙ sym (map-append (is_known records at) entries (c ∷ []));
  adds = λ records at stands owner offset.
      let place : o ≡ place_at records at c.key.pid c.key.pc = finds (take at records) stands in
      let one : AddsEntry epoch (place_at records at c.key.pid c.key.pc) c between after = subst (λ (p : Option Place). AddsEntry epoch p c between after) place adds in
      let this = one owner offset in
      let earlier = so.adds records at stands owner offset in
      let whole = last_adds epoch (place_at records at) entries c owner offset in
      omega (arith, this, earlier, whole);
  epochs = λ last upto within. epochs_more last epoch (λ pid pc. o) (c ∷ []) between after (λ owner offset. let this = adds owner offset in omega (arith, this)) upto (so.epochs last upto within);
}

-- the same sums
pub same_so_far : (mappings : LoadMap) (epoch : ℕ) (entries : List Counted) (known : List Bool) (before between after : Collected)
    → HasSame between after → SoFar mappings epoch entries known before between → SoFar mappings epoch entries known before after
same_so_far mappings epoch entries known before between after same so = record {
  flags = so.flags;
  adds = λ records at stands owner offset. same owner offset ∙ so.adds records at stands owner offset;
  epochs = λ last upto within owner offset some. so.epochs last upto within owner offset (let is = same owner offset in omega (arith, is, some));
}

-- what is promised of the first entries
pub refused_at : (mappings : LoadMap) (epoch : ℕ) (batch : Sent) (n : ℕ) (known : List Bool) (before after : Collected) → SoFar mappings epoch (take n batch.entries) known before after
    → (images : List (List ℕ)) (records : List Record) (at : ℕ) (drains : List Drained) → StandsFor mappings (take at records) → Gathers before images records drains → Gathers after images records (drains ++ drained records at epoch (first_of n batch) ∷ [])
refused_at mappings epoch batch n known before after so images records at drains stands gathers = gathers_more images records at epoch (first_of n batch) before after drains (so.adds records at stands) gathers

pub gathered_all : (mappings : LoadMap) (epoch : ℕ) (batch : Sent) (known : List Bool) (before after : Collected) → SoFar mappings epoch batch.entries known before after
    → (images : List (List ℕ)) (records : List Record) (at : ℕ) (drains : List Drained) → StandsFor mappings (take at records) → Gathers before images records drains → Gathers after images records (drains ++ drained records at epoch batch ∷ [])
gathered_all mappings epoch batch known before after so images records at drains stands gathers = gathers_more images records at epoch batch before after drains (so.adds records at stands) gathers

pub images_so_far : (mappings : LoadMap) (epoch : ℕ) (entries : List Counted) (known : List Bool) (before after : Collected) → SoFar mappings epoch entries known before after
    → (images : List (List ℕ)) (records : List Record) (at : ℕ) → StandsFor mappings (take at records) → ((pid pc : ℕ) → HasImage images (place_at records at pid pc)) → ImagesAreIn images before → ImagesAreIn images after
images_so_far mappings epoch entries known before after so images records at stands has within = images_more images epoch (place_at records at) entries before after (so.adds records at stands) has within
