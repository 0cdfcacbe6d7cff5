-- What a handle of C owns: nothing at null, else a box.
use Rattle.std.specs.Prelude.{Option, None, Some}
use base.Fml.{Fml, ftrue, ffalse}
use denote.RattleType.{RattleType}
use denote.RawPtr.{Ptr, block_ptr, null_ptr}
use Rattle.std.specs.Box.Ownership.{box_owns}
use Rattle.std.specs.Global.{Global}
use Rattle.std_heap.specs.contracts.GlobalAllocator.TheImpl.{ghosts}

-- nothing at null, else the box of what is kept, a value of the type X
abbrev pub handle_owns : (X : RattleType) → Global → Ptr → Option X.Denot → Fml
handle_owns X a null_ptr None = ftrue
handle_owns X a null_ptr (Some x) = ffalse
handle_owns X a (block_ptr b o) None = ffalse
handle_owns X a (block_ptr b o) (Some x) = box_owns (ghosts.dealloc_token a) X (block_ptr b o) x
