-- Jobs for which memory ran out before they opened their output.
use Rattle.std.proofs.Common.{ℕ, List, [], ◌∷◌, inl, inr}
use Rattle.osm_host.specs.Outside.{Outside}
use Rattle.osm_job.specs.declared.ended.Ended.{Ended}
use Rattle.osm_job.specs.declared.ended.Ended.TheVariants.{Done, Warnings, Errors, Stopped, BadWords, BadInput, TooMuchInput, TooManyPieces, Refuted, BadPoint}
use Rattle.osm_job.specs.declared.ended.Ended.TheVariants.{OpenFault, ReadFault, WriteFault, OutOfMemory}
use Rattle.osm_job.specs.InputRead.{LacksBoth, LacksInput, LacksText}
use Rattle.osm_job.specs.Spared.{SparesOutput}

-- ---- an input

module _ (file : List ℕ) (more : List (List ℕ)) (before now : Outside) where
  pub first_spared : (ended : Ended) → LacksInput file ended before now → SparesOutput (file ∷ more) ended before now
  first_spared Done l is = absurd (cc)
  first_spared Warnings l is = absurd (cc)
  first_spared Errors l is = absurd (cc)
  first_spared (Stopped candidate) l is = absurd (cc)
  first_spared (BadWords cause) l is = absurd (cc)
  first_spared (BadInput line fault) l is = absurd (cc)
  first_spared (TooMuchInput limit) l is = absurd (cc)
  first_spared (TooManyPieces most) l is = absurd (cc)
  first_spared (Refuted line) l is = absurd (cc)
  first_spared (BadPoint line) l is = absurd (cc)
  first_spared OpenFault l is = absurd (cc)
  first_spared ReadFault l is = absurd (cc)
  first_spared WriteFault l is = absurd (cc)
  first_spared OutOfMemory l is = record { opened = 1; opens = l.lack; out = l.silent.out }

-- ---- an input and a text

module _ (file name : List ℕ) (before now : Outside) where
  text_spared : (ended : Ended) → LacksText file name ended before now → SparesOutput (file ∷ name ∷ []) ended before now
  text_spared Done l is = absurd (cc)
  text_spared Warnings l is = absurd (cc)
  text_spared Errors l is = absurd (cc)
  text_spared (Stopped candidate) l is = absurd (cc)
  text_spared (BadWords cause) l is = absurd (cc)
  text_spared (BadInput line fault) l is = absurd (cc)
  text_spared (TooMuchInput limit) l is = absurd (cc)
  text_spared (TooManyPieces most) l is = absurd (cc)
  text_spared (Refuted line) l is = absurd (cc)
  text_spared (BadPoint line) l is = absurd (cc)
  text_spared OpenFault l is = absurd (cc)
  text_spared ReadFault l is = absurd (cc)
  text_spared WriteFault l is = absurd (cc)
  text_spared OutOfMemory l is = record { opened = 2; opens = l.lack; out = l.silent.out }

  pub either_spared : (ended : Ended) → LacksBoth file name ended before now → SparesOutput (file ∷ name ∷ []) ended before now
  either_spared ended (inl first) is = first_spared file (name ∷ []) before now ended first is
  either_spared ended (inr text) is = text_spared ended text is
