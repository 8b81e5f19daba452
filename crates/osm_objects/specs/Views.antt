-- What the store lends of a node, way or relation.
use Rattle.osm_objects.specs.Objects.{NodeParts, WayParts, RelationParts}
use Rattle.osm_objects.specs.declared.view.NodeView.{NodeView}
use Rattle.osm_objects.specs.declared.view.WayView.{WayView}
use Rattle.osm_objects.specs.declared.view.RelationView.{RelationView}

abbrev pub node_seen : NodeView → NodeParts
node_seen v = record { tags = v.tags.now; place = v.place }

abbrev pub way_seen : WayView → WayParts
way_seen v = record { tags = v.tags.now; refs = v.refs.now }

abbrev pub relation_seen : RelationView → RelationParts
relation_seen v = record { tags = v.tags.now; members = v.members.now }
