-- The seeds that words list.
use Rattle.std.proofs.Common.{◌≡◌, ◌<◌, ◌+◌, ◌==◌, ◌++◌, ◌∷◌, ℕ, Bool, true, false, List, [], Option, Some, None, length, take, drop, get_or, ltb, refl, sym, ap, ◌∙◌, arith}
use Rattle.std.specs.Prelude.{◌||◌, if◌then◌else◌, is_some}
use Rattle.std.proofs.lemmas.Bool.{le-ltb}
use Rattle.std.proofs.lemmas.List.{drop_more, length-map, length-take-le, map-append, take-append-drop, take_more}
use Rattle.std.proofs.lemmas.List.Elements.{All-get_or}
use Rattle.programs.specs.Seeds.{class_of, seed_refusal}
use Rattle.programs.specs.declared.seeds.SeedFault.TheVariants.{BadClass, Repeated, Full}
use Rattle.lumos_words.specs.Fits.{SeedFits, SeedsFit}
use Rattle.lumos_words.specs.Numbers.{are_distinct, has_vertex}
use Rattle.lumos_words.specs.declared.request.SeedWord.{SeedWord}
use Rattle.lumos_words.proofs.SeedLemmas.{repeats}
use Rattle.lumos_top.specs.Programs.{seed_from, seeds_from}

by_vertex : (is there : Bool) (class : ℕ) (rest : Option ℕ) → (is || there) ≡ false → (there ≡ false → rest ≡ None) → (if is then Some class else rest) ≡ None
by_vertex true there class rest h go = absurd (cc)
by_vertex false there class rest h go = go h

-- a vertex that stands in no word is no seed
no_seed : (v : ℕ) (before : List SeedWord) → has_vertex v before ≡ false → class_of (seeds_from before) v ≡ None
no_seed v [] h = refl
no_seed v (b ∷ before) h = by_vertex (b.vertex == v) (has_vertex v before) b.class (class_of (seeds_from before) v) h (no_seed v before)

only_false : (b : Bool) → (b ≡ true → ⊥) → b ≡ false
only_false true never = absurd (never refl)
only_false false never = refl

none_of : (bad full : Bool) (class : Option ℕ) → bad ≡ false → class ≡ None → full ≡ false → (if bad then Some BadClass else if is_some class then Some Repeated else if full then Some Full else None) ≡ None
none_of true full class bad_is none full_is = absurd (cc)
none_of false full (Some c) bad_is none full_is = absurd (cc)
none_of false true None bad_is none full_is = absurd (cc)
none_of false false None bad_is none full_is = refl

-- the next word is a seed that is taken
pub seed_taken : (words : List SeedWord) (k : ℕ) (d : SeedWord) → SeedsFit words → k < length words → seed_refusal (seeds_from (take k words)) (seed_from (get_or words k d)) ≡ None
seed_taken words k d fits some =
    let seed = get_or words k d in
    let split : words ≡ take k words ++ seed ∷ drop (k + 1) words = sym (take-append-drop k words) ∙ ap (λ rest. take k words ++ rest) (drop_more words k d some) in
    let distinct : are_distinct (take k words ++ seed ∷ drop (k + 1) words) ≡ true = sym (ap are_distinct split) ∙ fits.distinct in
    let new = no_seed seed.vertex (take k words) (only_false (has_vertex seed.vertex (take k words)) (λ there. let e : true ≡ false = sym distinct ∙ repeats (take k words) seed (drop (k + 1) words) there in cc)) in
    let class = (All-get_or SeedFits words k d some fits.each).class in
    let long : length (seeds_from (take k words)) ≡ k = length-map (take k words) seed_from ∙ length-take-le k words (omega (arith, some)) in
    let few = fits.few in
    none_of (ltb 3 seed.class) (ltb 63 (length (seeds_from (take k words)))) (class_of (seeds_from (take k words)) seed.vertex) (le-ltb 3 seed.class class) new (le-ltb 63 (length (seeds_from (take k words))) (omega (arith, long, some, few)))

-- one word more is one seed more
pub seeds_next : (words : List SeedWord) (k : ℕ) (d : SeedWord) → k < length words → seeds_from (take k words) ++ seed_from (get_or words k d) ∷ [] ≡ seeds_from (take (k + 1) words)
seeds_next words k d some = sym (ap seeds_from (take_more words k d some) ∙ map-append seed_from (take k words) (get_or words k d ∷ []))
