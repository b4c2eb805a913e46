-- What the laws of a join give of joins of lists.
use Rattle.std.proofs.Common.{◌≡◌, List, [], ◌∷◌, ◌++◌, refl, sym, ap, ◌∙◌, IsPermutation}
use Rattle.std.specs.List.{AllByRecursion}
use Rattle.std.proofs.lemmas.List.Sums.{fold-append}
use Rattle.lumos_law.specs.Joins.{JoinLaws, join_from}
use Rattle.lumos_law.proofs.Permutations.{along_permutation}

module _ {S : Type 0} {In : S → Type 0} {unit : S} {join : S → S → S} (laws : JoinLaws In unit join) where
  -- a join of sums in range is in range
  pub join_from_in : (a : S) (xs : List S) → In a → AllByRecursion In xs → In (join_from join a xs)
  join_from_in a [] h all = h
  join_from_in a (x ∷ xs) h all = join_from_in (join a x) xs (laws.join_in a x h all.0) all.1

  -- a first sum may be joined last
  pub join_from-first : (a : S) (xs : List S) → In a → AllByRecursion In xs → join_from join a xs ≡ join a (join_from join unit xs)
  join_from-first a [] h all = sym (laws.commutes a unit h laws.unit_in ∙ laws.starts a h)
  join_from-first a (x ∷ xs) h all =
      let ux : join unit x ≡ x = laws.starts x all.0 in
      let inner : join_from join (join unit x) xs ≡ join x (join_from join unit xs) =
      ap (λ y. join_from join y xs) ux ∙ join_from-first x xs all.0 all.1 in
      join_from-first (join a x) xs (laws.join_in a x h all.0) all.1
      ∙ laws.associates a x (join_from join unit xs) h all.0 (join_from_in unit xs laws.unit_in all.1)
      ∙ ap (join a) (sym inner)

  -- the join of two lists in a row is the join of their joins
  pub join_from-append : (xs ys : List S) → AllByRecursion In xs → AllByRecursion In ys → join_from join unit (xs ++ ys) ≡ join (join_from join unit xs) (join_from join unit ys)
  join_from-append xs ys all more =
      fold-append join unit xs ys ∙ join_from-first (join_from join unit xs) ys (join_from_in unit xs laws.unit_in all) more

  -- two lists whose joins are one, from any sum on
  abbrev JoinsAlike : List S → List S → Type 0
  JoinsAlike xs ys =
      AllByRecursion In xs → AllByRecursion In ys × ((a : S) → In a → join_from join a xs ≡ join_from join a ys)

  turned : (x y : S) (xs : List S) → JoinsAlike (x ∷ y ∷ xs) (y ∷ x ∷ xs)
  turned x y xs all = (
    (all.1.0, (all.0, all.1.1)),
    λ a h. ap (λ z. join_from join z xs)
        (laws.associates a x y h all.0 all.1.0 ∙ ap (join a) (laws.commutes x y all.0 all.1.0) ∙ sym (laws.associates a y x h all.1.0 all.0)),
  )

  -- any order of the sums has the same join
  pub join_from-permutation : (xs ys : List S) → IsPermutation xs ys → JoinsAlike xs ys
  join_from-permutation = along_permutation JoinsAlike
      (λ xs all. (all, λ a h. refl))
      (λ x xs ys h all. let rest = h all.1 in ((all.0, rest.0), λ a k. rest.1 (join a x) (laws.join_in a x k all.0)))
      turned
      (λ xs ys zs h k all. let first = h all in let second = k first.0 in (second.0, λ a j. first.1 a j ∙ second.1 a j))
