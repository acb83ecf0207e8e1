-- What a pointer to a boxed value owns, where its type does not say which value that is.
use base.Fml.{Fml, ftrue}
use denote.RawPtr.{Ptr}
use denote.RattleType.{RattleType}
use Rattle.std.specs.declared.alloc.Global.{Global}
use Rattle.std.specs.contracts.impls.GlobalAllocator.TheImpl.{ghosts}
use Rattle.std.specs.declared.option.Option.{Option}
use Rattle.std.specs.declared.option.Option.TheVariants.{None, Some}
use Rattle.std_alloc.specs.Box.Ownership.{box_owns}

-- the process's heap, which is one
abbrev pub heap : Global
heap = record { memory = record { seal = tt } }

-- nothing, or the box with this value of this type
abbrev pub owns : (R : RattleType) → Ptr → Option R.Denot → Fml
owns R p None = ftrue
owns R p (Some d) = box_owns (ghosts.dealloc_token heap) R p d
