-- Vectors of a product in lanes, in the form that suits its sizes.
use Rattle.ua_lanes.specs.LaneLists.{LaneList}
use Rattle.ua_lanes.specs.declared.lanes.Form.{Form}
use Rattle.ua_lanes.specs.declared.lanes.Form.TheVariants.{Small, Large}

-- the lanes, in either form
abbrev pub lanes_in : Form → LaneList
lanes_in (Small lanes) = lanes
lanes_in (Large lanes) = lanes
