-- What a text that is a mask says, before memory is taken for the mask.
use Rattle.std.specs.Prelude.{option_copied}
use Rattle.pads_erase.specs.declared.mask.Mask.{Mask}
use Rattle.pads_orders.specs.Masks.{masking, pieces_behind}
use Rattle.pads_orders.specs.declared.mask.MaskText.{MaskText}

abbrev pub mask_told : MaskText → Mask
mask_told text = masking text.all (pieces_behind 44 (option_copied text.items))
