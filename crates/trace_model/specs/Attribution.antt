-- Where a program counter lies: the image and offset that the records before a moment give it.
use Rattle.std.specs.Prelude.{ℕ, ◌+◌, ◌-◌, ◌==◌, ◌&&◌, nat_le, nat_lt, Bool, true, false, if◌then◌else◌, List, [], ◌∷◌, take, reverse}
use Rattle.std.specs.declared.option.Option.{Option}
use Rattle.std.specs.declared.option.Option.TheVariants.{Some, None}
use Rattle.trace_model.specs.declared.notices.Record.{Record}
use Rattle.trace_model.specs.declared.notices.Record.TheVariants.{Scan, Load, Unload, Exec, Exit, Kernel, Drain, Merge, Epoch}
use Rattle.trace_model.specs.declared.notices.Place.{Place}

-- a range covers its first address and not its end
abbrev pub covers : ℕ → ℕ → ℕ → Bool
covers base length pc = nat_le base pc && nat_lt pc (base + length)

-- the image and offset of a covered address
abbrev pub place_if_covered : ℕ → ℕ → ℕ → ℕ → Option Place
place_if_covered base length image pc = if covers base length pc then Some (record { image = image; offset = pc - base }) else None

-- what one record says of an address of a process
pub data Verdict : Type 0 where
  GoesOn : Verdict
  Decides : Option Place → Verdict

-- a mapping of the process decides where it covers the address
abbrev pub by_mapping : Bool → Option Place → Verdict
by_mapping true (Some place) = Decides (Some place)
by_mapping true None = GoesOn
by_mapping false place = GoesOn

abbrev pub decides_where : Bool → Option Place → Verdict
decides_where true place = Decides place
decides_where false place = GoesOn

abbrev pub says : Record → ℕ → ℕ → Verdict
says (Scan process base length image) pid pc = by_mapping (process == pid) (place_if_covered base length image pc)
says (Load process base length image) pid pc = by_mapping (process == pid) (place_if_covered base length image pc)
says (Unload process base length) pid pc = decides_where (process == pid && covers base length pc) None
says (Exec process base length image) pid pc = decides_where (process == pid) (place_if_covered base length image pc)
says (Exit process) pid pc = decides_where (process == pid) None
says (Kernel base length image) pid pc = GoesOn
says Drain pid pc = GoesOn
says Merge pid pc = GoesOn
says Epoch pid pc = GoesOn

abbrev pub decided_by : Verdict → Option Place → Option Place
decided_by GoesOn other = other
decided_by (Decides place) other = place

-- the process's own mapping: of the records that decide the latest one does. The latest stands first
abbrev pub own_place : List Record → ℕ → ℕ → Option Place
own_place [] pid pc = None
own_place (notice ∷ earlier) pid pc = decided_by (says notice pid pc) (own_place earlier pid pc)

-- a mapping of the kernel that covers the address
abbrev pub kernel_mapping : Record → ℕ → Option Place
kernel_mapping (Scan process base length image) pc = None
kernel_mapping (Load process base length image) pc = None
kernel_mapping (Unload process base length) pc = None
kernel_mapping (Exec process base length image) pc = None
kernel_mapping (Exit process) pc = None
kernel_mapping (Kernel base length image) pc = place_if_covered base length image pc
kernel_mapping Drain pc = None
kernel_mapping Merge pc = None
kernel_mapping Epoch pc = None

-- the first place, or the other where there is none
abbrev pub or_else : Option Place → Option Place → Option Place
or_else None other = other
or_else (Some place) other = Some place

-- the latest mapping of the kernel that covers the address. The latest record stands first
abbrev pub kernel_place : List Record → ℕ → Option Place
kernel_place [] pc = None
kernel_place (notice ∷ earlier) pc = or_else (kernel_mapping notice pc) (kernel_place earlier pc)

-- the place that these records, in the order of the trace, give an address of a process
abbrev pub place_after : List Record → ℕ → ℕ → Option Place
place_after records pid pc = or_else (own_place (reverse records) pid pc) (kernel_place (reverse records) pc)

-- the place at a moment: after the first records of the trace
abbrev pub place_at : List Record → ℕ → ℕ → ℕ → Option Place
place_at records applied pid pc = place_after (take applied records) pid pc
